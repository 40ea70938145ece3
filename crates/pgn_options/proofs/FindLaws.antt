-- What a command that was found asks for.
use Rattle.std.proofs.Common.{◌≡◌, ◌∙◌, ℕ, ◌≤◌, ◌||◌, Bool, true, false, cond, List, Option, Some, None, is_some, Result, Ok, refl, sym, ap, subst, codes, arith}
use Rattle.std.specs.Prelude.{Box, option_map, unwrap_or}
use Rattle.std.specs.Box.{box_value}
use Rattle.std.specs.Str.{bytes_eq}
use Rattle.std.proofs.lemmas.Slice.Eq.{bytes_eq-Decides}
use Rattle.clap.specs.Matches.{subcommand_name_of}
use Rattle.clap.specs.Simple.{subcommand_rows, subcommand_rows_of}
use Rattle.clap.specs.Walk.{Row, Text}
use Rattle.clap.specs.declared.parser.matches.ArgMatches.{ArgMatches}
use Rattle.clap.specs.declared.parser.matches.ArgMatches.TheViews.{out-ArgMatches, out-SubCommand}
use Rattle.clap.specs.declared.parser.matches.SubCommand.{SubCommand}
use Rattle.pgn_options.specs.declared.asked.Asked.{Asked}
use Rattle.pgn_options.specs.declared.asked.Asked.TheVariants.{Run, Drill, Wire, Check, Serve}
use Rattle.pgn_options.specs.declared.options.Options.{Options}
use Rattle.pgn_options.specs.declared.reading.WordsFault.{WordsFault}
use Rattle.pgn_options.specs.Parse.{Finds, FindsDrill, FindsNumbers, FindsOptions, FindsOthers, FindsTooMuch, FindsWire, FindsWith, IsFoundAs}
use Rattle.pgn_options.specs.Words.{IsWithin, OfCheck, OfRun, OfServe, Optioned, asked_with, format_numbered, word_of}
use Rattle.pgn_options.proofs.ReadLaws.{number-is}

-- the name of what was found
pub name-of : (m : ArgMatches) → subcommand_name_of m ≡ option_map (λ p. p.0) (subcommand_rows_of m)
name-of m = go (out-ArgMatches m).subcommand
  where
    go : {Z : Type 0} (o : Option (Box SubCommand Z)) → option_map (λ b. (out-SubCommand (box_value b)).name.now) o ≡ option_map (λ p. p.0) (subcommand_rows o)
    go None = refl
    go (Some b) = refl

-- no command with options is `drill` or `wire`
not-drill : (which : Optioned) → bytes_eq (word_of which) (codes "drill") ≡ false
not-drill OfRun = refl
not-drill OfCheck = refl
not-drill OfServe = refl

not-wire : (which : Optioned) → bytes_eq (word_of which) (codes "wire") ≡ false
not-wire OfRun = refl
not-wire OfCheck = refl
not-wire OfServe = refl

-- two of them that have one name are one
one-of-them : (which other : Optioned) → bytes_eq (word_of which) (word_of other) ≡ true → which ≡ other
one-of-them OfRun OfRun e = refl
one-of-them OfRun OfCheck e = absurd (cc)
one-of-them OfRun OfServe e = absurd (cc)
one-of-them OfCheck OfRun e = absurd (cc)
one-of-them OfCheck OfCheck e = refl
one-of-them OfCheck OfServe e = absurd (cc)
one-of-them OfServe OfRun e = absurd (cc)
one-of-them OfServe OfCheck e = absurd (cc)
one-of-them OfServe OfServe e = refl

same-command : (which other : Optioned) (name : Text) → Some name ≡ Some (word_of which) → name ≡ word_of other → which ≡ other
same-command which other name named is =
    let same : word_of which ≡ word_of other = sym (unsome named) ∙ is in
    one-of-them which other ((bytes_eq-Decides (word_of which) (word_of other)).1 same)
  where
    unsome : {a b : Text} → Some a ≡ Some b → a ≡ b
    unsome e = cc

-- `drill` was found
pub finds-drill : (s : Option (Text × List Row)) (asked : Asked) (name : Text) (rows : List Row) (r : Result Asked WordsFault)
    → Finds s asked → Some name ≡ option_map (λ p. p.0) s → Some rows ≡ option_map (λ p. p.1) s
    → bytes_eq name (codes "drill") ≡ true → ((seed sessions notes : ℕ) → FindsNumbers rows seed sessions notes → r ≡ Ok (Drill seed sessions notes)) → r ≡ Ok asked
finds-drill _ _ name rows r (FindsWith which there given asked f e) named has drill gives =
    let same : name ≡ word_of which = cc in
    let is : bytes_eq name (codes "drill") ≡ false = ap (λ (n : Text). bytes_eq n (codes "drill")) same ∙ not-drill which in
    absurd (cc)
finds-drill _ _ name rows r (FindsDrill there seed sessions notes f) named has drill gives =
    let same : there ≡ rows = cc in
    gives seed sessions notes (subst (λ (x : List Row). FindsNumbers x seed sessions notes) same f)
finds-drill _ _ name rows r (FindsWire there) named has drill gives =
    let same : name ≡ codes "wire" = cc in
    let is : bytes_eq name (codes "drill") ≡ false = ap (λ (n : Text). bytes_eq n (codes "drill")) same in
    absurd (cc)

-- `wire` was
pub finds-wire : (s : Option (Text × List Row)) (asked : Asked) (name : Text) → Finds s asked → Some name ≡ option_map (λ p. p.0) s → bytes_eq name (codes "wire") ≡ true → asked ≡ Wire
finds-wire _ _ name (FindsWith which there given asked f e) named wire =
    let same : name ≡ word_of which = cc in
    let is : bytes_eq name (codes "wire") ≡ false = ap (λ (n : Text). bytes_eq n (codes "wire")) same ∙ not-wire which in
    absurd (cc)
finds-wire _ _ name (FindsDrill there seed sessions notes f) named wire =
    let same : name ≡ codes "drill" = cc in
    let is : bytes_eq name (codes "wire") ≡ false = ap (λ (n : Text). bytes_eq n (codes "wire")) same in
    absurd (cc)
finds-wire _ _ name (FindsWire there) named wire = refl

-- neither of them was found with options that are too many
pub drill-takes-none : (s : Option (Text × List Row)) (name : Text) → FindsTooMuch s → Some name ≡ option_map (λ p. p.0) s → bytes_eq name (codes "drill") ≡ true → ⊥
drill-takes-none _ name (FindsOthers which rows given f e) named drill =
    let same : name ≡ word_of which = cc in
    let is : bytes_eq name (codes "drill") ≡ false = ap (λ (n : Text). bytes_eq n (codes "drill")) same ∙ not-drill which in
    cc

-- what `wire` may be given is never too much
pub wire-takes-none : (s : Option (Text × List Row)) (name : Text) → FindsTooMuch s → Some name ≡ option_map (λ p. p.0) s → bytes_eq name (codes "wire") ≡ true → ⊥
wire-takes-none _ name (FindsOthers which rows given f e) named wire =
    let same : name ≡ word_of which = cc in
    let is : bytes_eq name (codes "wire") ≡ false = ap (λ (n : Text). bytes_eq n (codes "wire")) same ∙ not-wire which in
    cc

-- a command with options was found, and these are they
pub finds-with : (which : Optioned) (s : Option (Text × List Row)) (asked : Asked) (name : Text) (rows : List Row) (options : Options)
    → Finds s asked → Some name ≡ option_map (λ p. p.0) s → Some rows ≡ option_map (λ p. p.1) s → name ≡ word_of which
    → ((given : Options) → FindsOptions rows given → options ≡ given) → asked_with which options ≡ Some asked
finds-with which _ _ name rows options (FindsWith other there given asked f e) named has is reads =
    let same : there ≡ rows = cc in
    let command : other ≡ which = same-command other which name named is in
    ap (asked_with which) (reads given (subst (λ (x : List Row). FindsOptions x given) same f)) ∙ ap (λ (o : Optioned). asked_with o given) (sym command) ∙ e
finds-with which _ _ name rows options (FindsDrill there seed sessions notes f) named has is reads =
    let drill : name ≡ codes "drill" = cc in
    let bad : bytes_eq (word_of which) (codes "drill") ≡ true = (bytes_eq-Decides (word_of which) (codes "drill")).1 (sym is ∙ drill) in
    let good : bytes_eq (word_of which) (codes "drill") ≡ false = not-drill which in
    absurd (cc)
finds-with which _ _ name rows options (FindsWire there) named has is reads =
    let wire : name ≡ codes "wire" = cc in
    let bad : bytes_eq (word_of which) (codes "wire") ≡ true = (bytes_eq-Decides (word_of which) (codes "wire")).1 (sym is ∙ wire) in
    let good : bytes_eq (word_of which) (codes "wire") ≡ false = not-wire which in
    absurd (cc)

-- where the options of a command are too much they name nothing that can be asked for
pub finds-others : (which : Optioned) (s : Option (Text × List Row)) (name : Text) (rows : List Row) (options : Options)
    → FindsTooMuch s → Some name ≡ option_map (λ p. p.0) s → Some rows ≡ option_map (λ p. p.1) s → name ≡ word_of which
    → ((given : Options) → FindsOptions rows given → options ≡ given) → asked_with which options ≡ None
finds-others which _ name rows options (FindsOthers other there given f e) named has is reads =
    let same : there ≡ rows = cc in
    let command : other ≡ which = same-command other which name named is in
    ap (asked_with which) (reads given (subst (λ (x : List Row). FindsOptions x given) same f)) ∙ ap (λ (o : Optioned). asked_with o given) (sym command) ∙ e

-- another name than the other four is `serve`
serves : (which : Optioned) (name : Text) → name ≡ word_of which → bytes_eq name (codes "run") ≡ false → bytes_eq name (codes "check") ≡ false → name ≡ word_of OfServe
serves OfRun name is run check = let bad : bytes_eq name (codes "run") ≡ true = (bytes_eq-Decides name (codes "run")).1 is in absurd (cc)
serves OfCheck name is run check = let bad : bytes_eq name (codes "check") ≡ true = (bytes_eq-Decides name (codes "check")).1 is in absurd (cc)
serves OfServe name is run check = is

-- a command that is found and is none of the others is `serve`
pub finds-serve : (s : Option (Text × List Row)) (asked : Asked) (name : Text) → Finds s asked → Some name ≡ option_map (λ p. p.0) s
    → bytes_eq name (codes "run") ≡ false → bytes_eq name (codes "drill") ≡ false → bytes_eq name (codes "wire") ≡ false → bytes_eq name (codes "check") ≡ false → name ≡ word_of OfServe
finds-serve _ _ name (FindsWith which there given asked f e) named run drill wire check = let is : name ≡ word_of which = cc in serves which name is run check
finds-serve _ _ name (FindsDrill there seed sessions notes f) named run drill wire check =
    let same : name ≡ codes "drill" = cc in
    let bad : bytes_eq name (codes "drill") ≡ true = (bytes_eq-Decides name (codes "drill")).1 same in
    absurd (cc)
finds-serve _ _ name (FindsWire there) named run drill wire check =
    let same : name ≡ codes "wire" = cc in
    let bad : bytes_eq name (codes "wire") ≡ true = (bytes_eq-Decides name (codes "wire")).1 same in
    absurd (cc)

-- a command that is given too much, and is not `run` or `check`, is `serve`
pub serve-takes : (s : Option (Text × List Row)) (name : Text) → FindsTooMuch s → Some name ≡ option_map (λ p. p.0) s → bytes_eq name (codes "run") ≡ false → bytes_eq name (codes "check") ≡ false
    → name ≡ word_of OfServe
serve-takes _ name (FindsOthers which rows given f e) named run check = let is : name ≡ word_of which = cc in serves which name is run check

-- the numbers of options that were found
options-within : (rows : List Row) (pages patience : Option ℕ) → IsFoundAs 2 1024 (codes "pages") rows pages → IsFoundAs 1 1000000000 (codes "patience") rows patience
    → (2 ≤ unwrap_or pages 256) × (unwrap_or pages 256 ≤ 1024) × (1 ≤ unwrap_or patience 10000000) × (unwrap_or patience 10000000 ≤ 1000000000)
options-within rows None None h k = (omega arith, omega arith, omega arith, omega arith)
options-within rows (Some n) None h k = let a = number-is 2 1024 h.0 n h.2 in (a.2, a.1, omega arith, omega arith)
options-within rows None (Some m) h k = let b = number-is 1 1000000000 k.0 m k.2 in (omega arith, omega arith, b.2, b.1)
options-within rows (Some n) (Some m) h k =
    let a = number-is 2 1024 h.0 n h.2 in
    let b = number-is 1 1000000000 k.0 m k.2 in
    (a.2, a.1, b.2, b.1)

-- the number of seats that was found
seats-within : (rows : List Row) (seats : Option ℕ) → IsFoundAs 1 256 (codes "seats") rows seats → (1 ≤ unwrap_or seats 64) × (unwrap_or seats 64 ≤ 256)
seats-within rows None h = (omega arith, omega arith)
seats-within rows (Some n) h = let a = number-is 1 256 h.0 n h.2 in (a.2, a.1)

-- a command that was not refused
if-asked : (b : Bool) (its asked : Asked) → IsWithin its → cond b None (Some its) ≡ Some asked → IsWithin asked
if-asked true its asked within is = absurd (cc)
if-asked false its asked within is = let same : its ≡ asked = cc in subst IsWithin same within

asked-within : (which : Optioned) (rows : List Row) (given : Options) (asked : Asked) → FindsOptions rows given → asked_with which given ≡ Some asked → IsWithin asked
asked-within OfRun rows given asked f e =
    if-asked (is_some given.seats) (Run (unwrap_or given.pages 256) (unwrap_or given.patience 10000000) (format_numbered (unwrap_or given.format 1)) given.live) asked
    (options-within rows given.pages given.patience f.pages f.patience) e
asked-within OfCheck rows given asked f e =
    if-asked (is_some given.seats || given.live) (Check (unwrap_or given.pages 256) (unwrap_or given.patience 10000000) (format_numbered (unwrap_or given.format 1))) asked
    (options-within rows given.pages given.patience f.pages f.patience) e
asked-within OfServe rows given asked f e =
    if-asked (is_some given.pages || (is_some given.patience || (is_some given.format || given.live))) (Serve (unwrap_or given.seats 64)) asked
    (seats-within rows given.seats f.seats) e

-- the numbers of what was found are those that a command may give
pub finds-within : (s : Option (Text × List Row)) (asked : Asked) → Finds s asked → IsWithin asked
finds-within _ _ (FindsWith which rows given asked f e) = asked-within which rows given asked f e
finds-within _ _ (FindsDrill rows seed sessions notes f) =
    let a = number-is 1 32 f.second.0 sessions f.second.2 in
    let b = number-is 1 1000 f.third.0 notes f.third.2 in
    (a.2, a.1, b.2, b.1)
finds-within _ _ (FindsWire rows) = tt
