-- What `clap` makes of all words is what they ask for.
use Rattle.std.proofs.Common.{◌≡◌, ◌∙◌, ℕ, Bool, true, false, cond, List, [], ◌∷◌, ◌++◌, Option, Some, None, Result, Ok, Err, IfOk, is_some, refl, sym, ap, subst, codes, append_assoc, inl, inr}
use Rattle.std.specs.Prelude.{fold, option_and_then, slice_get}
use Rattle.std.specs.Str.{bytes_eq, chars}
use Rattle.std.proofs.lemmas.Slice.Eq.{bytes_eq-Decides}
use Rattle.clap.specs.Kinds.{HasKind, IsAmong, Kinds, or_else}
use Rattle.clap.specs.Faults.{check_fault, defaults_fault, entered_fault, fault_of, flags_fault, is_simple_and_free, settle_fault, turn_fault, walk_fault}
use Rattle.clap.specs.Walk.{Names, Row, Text, Walk, bundle_met, finished, nothing_held, settled, walk_from, walked}
use Rattle.clap.specs.Simple.{App, Shape, entered, is_simple, subcommand_of}
use Rattle.clap.specs.Values.{kind_of}
use Rattle.clap.specs.declared.error.Error.{Error}
use Rattle.clap.specs.declared.error.kind.ErrorKind.{ErrorKind}
use Rattle.clap.specs.declared.error.kind.ErrorKind.TheVariants.{MissingSubcommand, OutOfMemory, UnknownArgument, InvalidSubcommand}
use Rattle.clap.proofs.FaultLemmas.{stopped_fault}
use Rattle.pgn_options.specs.declared.asked.Asked.{Asked}
use Rattle.pgn_options.specs.declared.asked.Asked.TheVariants.{Run, Drill, Wire, Check, Serve}
use Rattle.pgn_options.specs.declared.options.Options.{Options}
use Rattle.pgn_options.specs.declared.reading.WordsFault.{WordsFault}
use Rattle.pgn_options.specs.declared.reading.WordsFault.TheVariants.{BadWords, Memory}
use Rattle.pgn_options.specs.Parse.{Finds, FindsDrill, FindsNumbers, FindsOptions, FindsOthers, FindsTooMuch, FindsWire, FindsWith, program_app, program_shape}
use Rattle.pgn_options.specs.Words.{AreNoCommand, AskFor, IsWithin, OfCheck, OfRun, OfServe, Optioned, asked_by, asked_with, drill_asked, drill_of, no_options, options_after, options_asked, wire_asked, wire_of, without_dashes, word_of}
use Rattle.pgn_options.proofs.TotalLaws.{Agrees, found, or-first, or-none, or-second, total}
use Rattle.pgn_options.proofs.FormLaws.{Form, dashes, form, long, plain, short}
use Rattle.pgn_options.proofs.RunLaws.{IsUsed, options-agree, options-found, options_built, options_for}
use Rattle.pgn_options.proofs.FindLaws.{finds-within}
use Rattle.pgn_options.proofs.DrillLaws.{IsDrill, drill-agrees, drill_built}
use Rattle.pgn_options.proofs.WireLaws.{IsWire, wire-agrees, wire_built}

abbrev program_built : Shape
program_built = record program_shape { is_leaf = false; is_built = true }

abbrev app : App
app = record { top = program_built; subs = drill_built ∷ wire_built ∷ options_built OfRun ∷ options_built OfCheck ∷ options_built OfServe ∷ [] }

abbrev names : Names
names = (codes "drill", []) ∷ (codes "wire", []) ∷ (codes "run", []) ∷ (codes "check", []) ∷ (codes "serve", []) ∷ []

abbrev start : Walk
start = walk_from nothing_held

-- no kinds where the words ask for something, which is found; else some, or too much is found
abbrev pub Comes : Option Asked → Kinds → Option (Text × List Row) → Type 0
Comes None kinds sub = kinds ≡ [] → FindsTooMuch sub
Comes (Some asked) kinds sub = (kinds ≡ []) × Finds sub asked

-- A command.

append-nothing : (xs : List Text) → xs ++ [] ≡ xs
append-nothing [] = refl
append-nothing (x ∷ xs) = ap (λ (ys : List Text). x ∷ ys) (append-nothing xs)

stopped-walk : (w : Walk) (name : Text) (seen words : List Text)
    → fold (walked [] names) (record w { stopped = Some (name, seen) }) words ≡ record w { stopped = Some (name, seen ++ words) }
unfolding walked
stopped-walk w name seen [] = ap (λ (xs : List Text). record w { stopped = Some (name, xs) }) (sym (append-nothing seen))
stopped-walk w name seen (word ∷ words) =
    stopped-walk w name (seen ++ word ∷ []) words ∙ ap (λ (xs : List Text). record w { stopped = Some (name, xs) }) (append_assoc seen (word ∷ []) words)

abbrev below : Kinds → Walk → Kinds
below kinds w =
    or_else kinds
    (or_else (entered_fault app w.stopped)
    (or_else (settle_fault [] false w.held)
    (or_else (defaults_fault (settled [] w.held).rows []) (check_fault program_built (finished [] w.held) (is_some (entered app w.stopped))))))

-- the words that follow the name of a command are those of its own
command-fault : (name : Text) (words : List Text) (s : Shape)
    → walked [] names start name ≡ record start { stopped = Some (name, []) }
    → turn_fault program_built names start name ≡ []
    → below [] (record start { stopped = Some (name, words) }) ≡ or_else (total s start words) []
    → fault_of program_app (name ∷ words) ≡ total s start words
unfolding walk_fault
command-fault name words s comes fine is =
    let fault : walk_fault program_built names start (name ∷ words) ≡ [] =
    ap (λ (k : Kinds). or_else k (walk_fault program_built names (walked [] names start name) words)) fine
    ∙ ap (λ (w : Walk). walk_fault program_built names w words) comes
    ∙ stopped_fault program_built names start (name, []) words in
    let there : fold (walked [] names) start (name ∷ words) ≡ record start { stopped = Some (name, words) } =
    ap (λ (w : Walk). fold (walked [] names) w words) comes ∙ stopped-walk start name [] words in
    ap (λ (k : Kinds). below k (fold (walked [] names) start (name ∷ words))) fault ∙ ap (λ (w : Walk). below [] w) there ∙ is ∙ or-none (total s start words)

command-found : (name : Text) (words : List Text) → walked [] names start name ≡ record start { stopped = Some (name, []) }
    → subcommand_of program_app (name ∷ words) ≡ entered app (Some (name, words))
command-found name words comes =
    ap (λ (w : Walk). entered app (fold (walked [] names) w words).stopped) comes ∙ ap (λ (w : Walk). entered app w.stopped) (stopped-walk start name [] words)

options-fault : (which : Optioned) (words : List Text) → fault_of program_app (word_of which ∷ words) ≡ total (options_built which) start words
unfolding walked walk_fault defaults_fault
options-fault OfRun words = command-fault (codes "run") words (options_built OfRun) refl refl refl
options-fault OfCheck words = command-fault (codes "check") words (options_built OfCheck) refl refl refl
options-fault OfServe words = command-fault (codes "serve") words (options_built OfServe) refl refl refl

options-are-found : (which : Optioned) (words : List Text) → subcommand_of program_app (word_of which ∷ words) ≡ Some (word_of which, found (options_built which) start words)
unfolding walked
options-are-found OfRun words = command-found (codes "run") words refl
options-are-found OfCheck words = command-found (codes "check") words refl
options-are-found OfServe words = command-found (codes "serve") words refl

drill-fault : (words : List Text) → fault_of program_app (codes "drill" ∷ words) ≡ total drill_built start words
unfolding walked walk_fault defaults_fault
drill-fault words = command-fault (codes "drill") words drill_built refl refl refl

drill-found : (words : List Text) → subcommand_of program_app (codes "drill" ∷ words) ≡ Some (codes "drill", found drill_built start words)
unfolding walked
drill-found words = command-found (codes "drill") words refl

wire-fault : (words : List Text) → fault_of program_app (codes "wire" ∷ words) ≡ total wire_built start words
unfolding walked walk_fault defaults_fault
wire-fault words = command-fault (codes "wire") words wire_built refl refl refl

wire-found : (words : List Text) → subcommand_of program_app (codes "wire" ∷ words) ≡ Some (codes "wire", found wire_built start words)
unfolding walked
wire-found words = command-found (codes "wire") words refl

-- What is found of it.

options-come : (which : Optioned) (words : List Text) → Comes (options_asked which words) (fault_of program_app (word_of which ∷ words)) (subcommand_of program_app (word_of which ∷ words))
options-come which words = go (options_after words no_options None) _ _ _ (options-fault which words) (options-are-found which words) (options-agree which words)
  where
    taken : (given : Options) (o : Option Asked) → asked_with which given ≡ o → (kinds : Kinds) (sub : Option (Text × List Row)) (rows : List Row) → kinds ≡ [] → sub ≡ Some (word_of which, rows)
        → FindsOptions rows given → Comes o kinds sub
    taken given None e kinds sub rows k s f = λ _. subst FindsTooMuch (sym s) (FindsOthers which rows given f e)
    taken given (Some asked) e kinds sub rows k s f = (k, subst (λ (x : Option (Text × List Row)). Finds x asked) (sym s) (FindsWith which rows given asked f e))

    go : (o : Option Options) (kinds : Kinds) (sub : Option (Text × List Row)) (rows : List Row) → kinds ≡ total (options_built which) start words → sub ≡ Some (word_of which, rows)
        → Agrees IsUsed o (total (options_built which) start words) rows → Comes (option_and_then (asked_with which) o) kinds sub
    go None kinds sub rows k s h = λ e. absurd (h (sym k ∙ e))
    go (Some given) kinds sub rows k s h =
        let options : FindsOptions rows (options_for h.1.0) = subst (λ (r : List Row). FindsOptions r (options_for h.1.0)) (sym h.1.1) (options-found h.1.0) in
        taken given (asked_with which given) refl kinds sub rows (k ∙ h.0) s (subst (λ (g : Options). FindsOptions rows g) h.1.2 options)

drill-comes : (words : List Text) → Comes (drill_asked words) (fault_of program_app (codes "drill" ∷ words)) (subcommand_of program_app (codes "drill" ∷ words))
drill-comes words = go (drill_of (without_dashes words)) _ _ _ (drill-fault words) (drill-found words) (drill-agrees words)
  where
    go : (o : Option Asked) (kinds : Kinds) (sub : Option (Text × List Row)) (rows : List Row) → kinds ≡ total drill_built start words → sub ≡ Some (codes "drill", rows)
        → Agrees IsDrill o (total drill_built start words) rows → Comes o kinds sub
    go None kinds sub rows k s h = λ e. absurd (h (sym k ∙ e))
    go (Some (Run pages patience format live)) kinds sub rows k s h = absurd h.1
    go (Some Wire) kinds sub rows k s h = absurd h.1
    go (Some (Check pages patience format)) kinds sub rows k s h = absurd h.1
    go (Some (Serve seats)) kinds sub rows k s h = absurd h.1
    go (Some (Drill seed sessions notes)) kinds sub rows k s h =
        let there : FindsNumbers rows seed sessions notes =
        subst (λ (r : List Row). FindsNumbers r seed sessions notes) (sym h.1.3)
        (record { first = (h.1.0, refl, h.1.4); second = (h.1.1, refl, h.1.5); third = (h.1.2, refl, h.1.6) }) in
        (k ∙ h.0, subst (λ (x : Option (Text × List Row)). Finds x (Drill seed sessions notes)) (sym s) (FindsDrill rows seed sessions notes there))

wire-comes : (words : List Text) → Comes (wire_asked words) (fault_of program_app (codes "wire" ∷ words)) (subcommand_of program_app (codes "wire" ∷ words))
wire-comes words = go (wire_of (without_dashes words)) _ _ _ (wire-fault words) (wire-found words) (wire-agrees words)
  where
    go : (o : Option Asked) (kinds : Kinds) (sub : Option (Text × List Row)) (rows : List Row) → kinds ≡ total wire_built start words → sub ≡ Some (codes "wire", rows)
        → Agrees IsWire o (total wire_built start words) rows → Comes o kinds sub
    go None kinds sub rows k s h = λ e. absurd (h (sym k ∙ e))
    go (Some (Run pages patience format live)) kinds sub rows k s h = absurd h.1
    go (Some (Drill seed sessions notes)) kinds sub rows k s h = absurd h.1
    go (Some Wire) kinds sub rows k s h = (k ∙ h.0, subst (λ (x : Option (Text × List Row)). Finds x Wire) (sym s) (FindsWire rows))
    go (Some (Check pages patience format)) kinds sub rows k s h = absurd h.1
    go (Some (Serve seats)) kinds sub rows k s h = absurd h.1

-- Other first words.

nothing-fault : fault_of program_app [] ≡ MissingSubcommand ∷ []
unfolding walk_fault defaults_fault
nothing-fault = refl

walk-first : (words : List Text) → fault_of program_app words ≡ [] → walk_fault program_built names start words ≡ []
walk-first words e = or-first _ _ e

walk-parts : (x : Walk) (w : Text) (words : List Text) → walk_fault program_built names x (w ∷ words) ≡ []
    → (turn_fault program_built names x w ≡ []) × (walk_fault program_built names (walked [] names x w) words ≡ [])
unfolding walk_fault
walk-parts x w words e = (
  or-first (turn_fault program_built names x w) (walk_fault program_built names (walked [] names x w) words) e,
  or-second (turn_fault program_built names x w) (walk_fault program_built names (walked [] names x w) words) e,
)

dashes-walk : walked [] names start (45 ∷ 45 ∷ []) ≡ record start { is_trailing = true }
unfolding walked
dashes-walk = refl

dashes-fault : (words : List Text) → fault_of program_app ((45 ∷ 45 ∷ []) ∷ words) ≡ [] → ⊥
unfolding walked walk_fault defaults_fault
dashes-fault [] e = cc
dashes-fault (word ∷ words) e =
    let rest = (walk-parts start (45 ∷ 45 ∷ []) (word ∷ words) (walk-first ((45 ∷ 45 ∷ []) ∷ word ∷ words) e)).1 in
    let there : walk_fault program_built names (record start { is_trailing = true }) (word ∷ words) ≡ [] = subst (λ (x : Walk). walk_fault program_built names x (word ∷ words) ≡ []) dashes-walk rest in
    let turn : UnknownArgument ∷ InvalidSubcommand ∷ [] ≡ [] = (walk-parts (record start { is_trailing = true }) word words there).0 in
    cc

module _ (words : List Text) where
  turn-wrong : (w : Text) → (turn_fault program_built names start w ≡ [] → ⊥) → fault_of program_app (w ∷ words) ≡ [] → ⊥
  turn-wrong w wrong e = wrong (walk-parts start w words (walk-first (w ∷ words) e)).0

  other-wrong : (w : Text) → Form w → bytes_eq (codes "run") w ≡ false → bytes_eq (codes "drill") w ≡ false → bytes_eq (codes "wire") w ≡ false → bytes_eq (codes "check") w ≡ false
      → bytes_eq (codes "serve") w ≡ false → fault_of program_app (w ∷ words) ≡ [] → ⊥
  unfolding flags_fault bundle_met
  other-wrong _ (plain w apart s) run drill wire check serve =
      turn-wrong w (λ e. let is : turn_fault program_built names start w ≡ UnknownArgument ∷ InvalidSubcommand ∷ [] = rw (run, drill, wire, check, serve, apart.not_dashes, apart.no_long, s) refl in cc)
  other-wrong _ (short y ys differs) run drill wire check serve = turn-wrong (45 ∷ y ∷ ys) (go (slice_get (chars (y ∷ ys)) 0) refl)
    where
      go : (o : Option ℕ) → slice_get (chars (y ∷ ys)) 0 ≡ o → turn_fault program_built names start (45 ∷ y ∷ ys) ≡ [] → ⊥
      go None c e = let is : turn_fault program_built names start (45 ∷ y ∷ ys) ≡ UnknownArgument ∷ InvalidSubcommand ∷ [] = rw (differs, differs, c) refl in cc
      go (Some x) c e = let is : turn_fault program_built names start (45 ∷ y ∷ ys) ≡ UnknownArgument ∷ [] = rw (differs, differs, c) refl in cc
  other-wrong _ dashes run drill wire check serve = dashes-fault words
  other-wrong _ (long z zs) run drill wire check serve = turn-wrong (45 ∷ 45 ∷ z ∷ zs) (λ e. let bad : UnknownArgument ∷ [] ≡ [] = e in cc)

-- what is found where the first word is this command
abbrev ComesAs : List Text → Option Asked → Text → Type 0
ComesAs words asked name = Comes asked (fault_of program_app (name ∷ words)) (subcommand_of program_app (name ∷ words))

words-come : (words : List Text) → Comes (asked_by words) (fault_of program_app words) (subcommand_of program_app words)
words-come [] = λ e. let bad = sym nothing-fault ∙ e in absurd (cc)
words-come (w ∷ words) =
    go (bytes_eq (codes "run") w) (bytes_eq (codes "drill") w) (bytes_eq (codes "wire") w) (bytes_eq (codes "check") w) (bytes_eq (codes "serve") w) refl refl refl refl refl
  where
    as_named : (name : Text) (asked : Option Asked) → bytes_eq name w ≡ true → ComesAs words asked name → ComesAs words asked w
    as_named name asked e h = subst (ComesAs words asked) ((bytes_eq-Decides name w).0 e) h

    go : (a b c i v : Bool) → bytes_eq (codes "run") w ≡ a → bytes_eq (codes "drill") w ≡ b → bytes_eq (codes "wire") w ≡ c → bytes_eq (codes "check") w ≡ i → bytes_eq (codes "serve") w ≡ v
        → ComesAs words
        (cond a (options_asked OfRun words) (cond b (drill_asked words) (cond c (wire_asked words) (cond i (options_asked OfCheck words) (cond v (options_asked OfServe words) None))))) w
    go true b c i v e d f g h = as_named (codes "run") (options_asked OfRun words) e (options-come OfRun words)
    go false true c i v e d f g h = as_named (codes "drill") (drill_asked words) d (drill-comes words)
    go false false true i v e d f g h = as_named (codes "wire") (wire_asked words) f (wire-comes words)
    go false false false true v e d f g h = as_named (codes "check") (options_asked OfCheck words) g (options-come OfCheck words)
    go false false false false true e d f g h = as_named (codes "serve") (options_asked OfServe words) h (options-come OfServe words)
    go false false false false false e d f g h = λ is. absurd (other-wrong words w (form w) e d f g h is)

-- What a parse answers.

came : (o : Option Asked) (kinds : Kinds) (sub : Option (Text × List Row)) (r : Result Asked WordsFault) → Comes o kinds sub → kinds ≡ []
    → ((asked : Asked) → Finds sub asked → r ≡ Ok asked) → (FindsTooMuch sub → r ≡ Err BadWords) → IfOk r (λ asked. o ≡ Some asked) × (r ≡ Err BadWords → o ≡ None) × IfOk r IsWithin
came None kinds sub r comes fine gives refuses =
    let is = refuses (comes fine) in
    (subst (λ (x : Result Asked WordsFault). IfOk x (λ a. None ≡ Some a)) (sym is) tt, λ e. refl, subst (λ (x : Result Asked WordsFault). IfOk x IsWithin) (sym is) tt)
came (Some asked) kinds sub r comes fine gives refuses =
    let is = gives asked comes.1 in
    (subst (λ (x : Result Asked WordsFault). IfOk x (λ a. Some asked ≡ Some a)) (sym is) refl, λ e. let bad : Ok asked ≡ Err BadWords = sym is ∙ e in absurd (cc), subst (λ (x : Result Asked WordsFault). IfOk x IsWithin) (sym is) (finds-within sub asked comes.1))

refuses : (o : Option Asked) (kinds : Kinds) (sub : Option (Text × List Row)) (k : ErrorKind) → Comes o kinds sub → IsAmong k kinds → o ≡ None
refuses None kinds sub k comes among = refl
refuses (Some asked) kinds sub k comes among = absurd (subst (λ (x : Kinds). IsAmong k x) comes.0 among)

simple : is_simple_and_free program_app ≡ true
simple = refl

module _ (a : App) (is : a ≡ program_app) (words : List Text) where
  -- words that the rules take are answered by what they ask for, or refused where they are given too much
  pub parsed : (sub : Option (Text × List Row)) (r : Result Asked WordsFault) → (is_simple_and_free a ≡ true → fault_of a words ≡ [])
      → (is_simple a ≡ true → sub ≡ subcommand_of a words)
      → ((asked : Asked) → Finds sub asked → r ≡ Ok asked) → (FindsTooMuch sub → r ≡ Err BadWords) → IfOk r (AskFor words) × (r ≡ Err BadWords → AreNoCommand words) × IfOk r IsWithin
  parsed sub r fine finds gives refused =
      let none : fault_of program_app words ≡ [] = ap (λ (x : App). fault_of x words) (sym is) ∙ fine (ap is_simple_and_free is ∙ simple) in
      let there : sub ≡ subcommand_of program_app words = finds (ap is_simple is) ∙ ap (λ (x : App). subcommand_of x words) is in
      came (asked_by words) _ sub r (subst (λ (x : Option (Text × List Row)). Comes (asked_by words) (fault_of program_app words) x) (sym there) (words-come words)) none gives refused

  -- words that are refused for anything but want of memory are no command
  pub unparsed : (e : Error) (w : WordsFault) → (is_simple_and_free a ≡ true → HasKind (fault_of a words) e) → (kind_of e ≡ OutOfMemory → w ≡ Memory)
      → w ≡ BadWords → AreNoCommand words
  unparsed e w fails memory bad = elim (fails (ap is_simple_and_free is ∙ simple)) [
    | inl out ↦ let other : Memory ≡ BadWords = sym (memory out) ∙ bad in absurd (cc)
    | inr among ↦ refuses (asked_by words) _ _ (kind_of e) (words-come words) (subst (λ (x : App). IsAmong (kind_of e) (fault_of x words)) is among)
  ]
