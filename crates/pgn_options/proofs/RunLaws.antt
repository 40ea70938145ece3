-- What `clap` makes of the words of `run` is what they give.
use Rattle.std.proofs.Common.{◌≡◌, ◌∙◌, ℕ, ◌==◌, ◌||◌, ◌&&◌, Bool, true, false, cond, List, [], ◌∷◌, ◌++◌, ◌≤◌, append-nil, Option, Some, None, is_some, refl, sym, ap, subst, codes, arith}
use Rattle.std.specs.Prelude.{fold, map, option_map, option_and_then, slice_get, drop, take}
use Rattle.std.specs.Str.{bytes_eq, chars}
use Rattle.std.specs.List.{before_first}
use Rattle.clap.specs.Lexer.{short_of}
use Rattle.clap.specs.Kinds.{Kinds, or_else, value_kinds}
use Rattle.clap.specs.Faults.{defaults_fault, default_fault, flags_fault, long_fault, option_fault, react_fault, settle_fault, step_fault, turn_fault, use_fault, walk_fault}
use Rattle.clap.specs.Walk.{Held, Row, Rule, Text, Waiting, Walk, after_flag, after_step, arg_by_long, at_row, bundle_met, finished, has_row, idle, more_values, one_of, with_values, without, long_met, nothing_held, option as waits_for, settled, takes_values, used, walk_from, walked, with_default}
use Rattle.clap.specs.Simple.{Shape, new_rule, new_shape}
use Rattle.clap.specs.declared.builder.action.ArgAction.TheVariants.{Set, SetTrue}
use Rattle.clap.specs.declared.builder.value_parser.Reading.{Reading}
use Rattle.clap.specs.declared.builder.value_parser.Reading.TheVariants.{AsWritten}
use Rattle.clap.specs.declared.builder.value_parser.ValueParser.TheVariants.{Bool as Bools, Unsigned}
use Rattle.clap.specs.declared.parser.matches.ValueSource.{ValueSource}
use Rattle.clap.specs.declared.parser.matches.ValueSource.TheVariants.{CommandLine, DefaultValue}
use Rattle.clap.specs.declared.error.kind.ErrorKind.TheVariants.{ArgumentConflict, InvalidValue, TooManyValues, UnknownArgument}
use Rattle.pgn_options.specs.declared.options.Options.{Options}
use Rattle.pgn_options.specs.Parse.{FindsOptions, IsFoundAs, IsFoundFlag}
use Rattle.pgn_options.specs.Words.{FormatNumber, Key, OfRun, Optioned, Pages, Patience, Seats, Nothing, behind_equals, by_word, if_last, key_named, live_unless_set, no_options, number_in, options_after, says_behind, says_of, with_live, with_option, word_of}
use Rattle.pgn_options.proofs.NumberLaws.{either, hyphen, passed, refused}
use Rattle.pgn_options.proofs.TotalLaws.{Agrees, agrees-step, both-none, ending, found, later-step, or-first, total, total-nil, walk_end, wrong-step}
use Rattle.pgn_options.proofs.FormLaws.{Form, IsNoLong, dashes, form, long, plain, short}

abbrev least_of : Key → ℕ
least_of Pages = 2
least_of Patience = 1
least_of FormatNumber = 1
least_of Seats = 1

abbrev most_of : Key → ℕ
most_of Pages = 1024
most_of Patience = 1000000000
most_of FormatNumber = 2
most_of Seats = 256

abbrev name_of : Key → Text
name_of Pages = codes "pages"
name_of Patience = codes "patience"
name_of FormatNumber = codes "format"
name_of Seats = codes "seats"

-- the number that a word is for an option
abbrev number_of : Key → Text → Option ℕ
number_of key word = number_in (least_of key) (most_of key) word

-- an option as it is built
abbrev rule : Key → Rule
rule key = record (new_rule (name_of key)) {
  long = Some (name_of key);
  action = Some Set;
  parser = Some (Unsigned (least_of key) (most_of key));
  range = Some (record { start_inclusive = 1; end_inclusive = 1 });
}

-- `--live` as it is built
abbrev live_rule : Rule
live_rule = record (new_rule (codes "live")) {
  long = Some (codes "live");
  action = Some SetTrue;
  parser = Some Bools;
  range = Some (record { start_inclusive = 0; end_inclusive = 0 });
  defaults = codes "false" ∷ [];
  missing = codes "true" ∷ [];
}

abbrev rules : List Rule
rules = rule Pages ∷ rule Patience ∷ rule FormatNumber ∷ rule Seats ∷ live_rule ∷ []

-- a command with all options, as it is built
abbrev pub options_built : Optioned → Shape
options_built which = record (new_shape (word_of which)) {
  rules = rules;
  no_binary_name = true;
  disable_help_flag = true;
  disable_help_subcommand = true;
  is_built = true;
}

-- `run` as it is built
abbrev pub run_built : Shape
run_built = options_built OfRun

-- an option that is given: its word and its number, or `--live`
pub data Use : Type 0 where
  number : (key : Key) (word : Text) (n : ℕ) → number_of key word ≡ Some n → Use
  live : Use

abbrev row : Key → Text → Row
row key word = record { id = name_of key; values = word ∷ []; count = None; source = Some CommandLine; reading = AsWritten }

abbrev live_row : ValueSource → Text → Row
live_row source word = record { id = codes "live"; values = word ∷ []; count = None; source = Some source; reading = AsWritten }

abbrev row_for : Use → Row
row_for (number key word n e) = row key word
row_for live = live_row CommandLine (codes "true")

-- the rows of the options that are given, in order
abbrev pub rows_for : List Use → List Row
rows_for uses = map row_for uses

-- the same once the words have ended
abbrev pub rows_at_end : List Use → List Row
rows_at_end uses = fold with_default (rows_for uses) rules

abbrev value_if : Key → Key → ℕ → Option ℕ → Option ℕ
value_if Pages Pages n rest = Some n
value_if Patience Patience n rest = Some n
value_if FormatNumber FormatNumber n rest = Some n
value_if Seats Seats n rest = Some n
value_if key other n rest = rest

-- the number that is given for an option
abbrev value_of : Key → List Use → Option ℕ
value_of key [] = None
value_of key (number other word n e ∷ uses) = value_if key other n (value_of key uses)
value_of key (live ∷ uses) = value_of key uses

-- `--live` is given
abbrev is_live : List Use → Bool
is_live [] = false
is_live (number key word n e ∷ uses) = is_live uses
is_live (live ∷ uses) = true

-- the options that a command has been given by these uses
abbrev pub options_for : List Use → Options
options_for uses = record { pages = value_of Pages uses; patience = value_of Patience uses; format = value_of FormatNumber uses; seats = value_of Seats uses; live = is_live uses }

-- P of the options that were found
abbrev pub IsUsed : Options → List Row → Type 0
IsUsed given rows = (now : List Use) × (rows ≡ rows_at_end now) × (options_for now ≡ given)

-- The rows of the options.

has-number : (key : Key) (uses : List Use) → has_row (name_of key) (rows_for uses) ≡ is_some (value_of key uses)
has-number Pages [] = refl
has-number Pages (number Pages word n e ∷ uses) = refl
has-number Pages (number Patience word n e ∷ uses) = has-number Pages uses
has-number Pages (number FormatNumber word n e ∷ uses) = has-number Pages uses
has-number Pages (number Seats word n e ∷ uses) = has-number Pages uses
has-number Pages (live ∷ uses) = has-number Pages uses
has-number Patience [] = refl
has-number Patience (number Pages word n e ∷ uses) = has-number Patience uses
has-number Patience (number Patience word n e ∷ uses) = refl
has-number Patience (number FormatNumber word n e ∷ uses) = has-number Patience uses
has-number Patience (number Seats word n e ∷ uses) = has-number Patience uses
has-number Patience (live ∷ uses) = has-number Patience uses
has-number FormatNumber [] = refl
has-number FormatNumber (number Pages word n e ∷ uses) = has-number FormatNumber uses
has-number FormatNumber (number Patience word n e ∷ uses) = has-number FormatNumber uses
has-number FormatNumber (number FormatNumber word n e ∷ uses) = refl
has-number FormatNumber (number Seats word n e ∷ uses) = has-number FormatNumber uses
has-number FormatNumber (live ∷ uses) = has-number FormatNumber uses
has-number Seats [] = refl
has-number Seats (number Pages word n e ∷ uses) = has-number Seats uses
has-number Seats (number Patience word n e ∷ uses) = has-number Seats uses
has-number Seats (number FormatNumber word n e ∷ uses) = has-number Seats uses
has-number Seats (number Seats word n e ∷ uses) = refl
has-number Seats (live ∷ uses) = has-number Seats uses

has-live : (uses : List Use) → has_row (codes "live") (rows_for uses) ≡ is_live uses
has-live [] = refl
has-live (number Pages word n e ∷ uses) = has-live uses
has-live (number Patience word n e ∷ uses) = has-live uses
has-live (number FormatNumber word n e ∷ uses) = has-live uses
has-live (number Seats word n e ∷ uses) = has-live uses
has-live (live ∷ uses) = refl

-- what there is no row for comes at the end
new-row : (id : Text) (change : Row → List Row) (missing rows : List Row) → has_row id rows ≡ false → at_row id change missing rows ≡ rows ++ missing
new-row id change missing [] e = refl
new-row id change missing (r ∷ rows) e = go (bytes_eq r.id id) (new-row id change missing rows) e
  where
    go : (b : Bool) → (has_row id rows ≡ false → at_row id change missing rows ≡ rows ++ missing) → (b || has_row id rows) ≡ false → cond b (change r ++ rows) (r ∷ at_row id change missing rows) ≡ r ∷ (rows ++ missing)
    go true later is = absurd (cc)
    go false later is = ap (λ (rest : List Row). r ∷ rest) (later is)

without-none : (id : Text) (rows : List Row) → has_row id rows ≡ false → without id rows ≡ rows
without-none id rows e = new-row id (λ r. []) [] rows e ∙ append-nil rows

new-values : (id : Text) (how : Reading) (source : ValueSource) (values : List Text) (rows : List Row) → has_row id rows ≡ false
    → with_values id how source values (without id rows) ≡ rows ++ record { id = id; values = values; count = None; source = Some source; reading = how } ∷ []
new-values id how source values rows e =
    ap (λ (there : List Row). with_values id how source values there) (without-none id rows e)
    ∙ new-row id (more_values source values) (record { id = id; values = values; count = None; source = Some source; reading = how } ∷ []) rows e

rows-push : (uses : List Use) (last : Use) → rows_for (uses ++ last ∷ []) ≡ rows_for uses ++ row_for last ∷ []
rows-push [] last = refl
rows-push (first ∷ uses) last = ap (λ (rest : List Row). row_for first ∷ rest) (rows-push uses last)

used-number : (key : Key) (word : Text) (n : ℕ) (e : number_of key word ≡ Some n) (uses : List Use) → has_row (name_of key) (rows_for uses) ≡ false
    → used (rule key) (word ∷ []) (rows_for uses) ≡ rows_for (uses ++ number key word n e ∷ [])
used-number key word n e uses none = new-values (name_of key) AsWritten CommandLine (word ∷ []) (rows_for uses) none ∙ sym (rows-push uses (number key word n e))

used-live : (uses : List Use) → has_row (codes "live") (rows_for uses) ≡ false → used live_rule [] (rows_for uses) ≡ rows_for (uses ++ live ∷ [])
used-live uses none = new-values (codes "live") AsWritten CommandLine (codes "true" ∷ []) (rows_for uses) none ∙ sym (rows-push uses live)

-- The options with one more.

number-push : (key : Key) (word : Text) (n : ℕ) (e : number_of key word ≡ Some n) (uses : List Use) → value_of key uses ≡ None → value_of key (uses ++ number key word n e ∷ []) ≡ Some n
number-push Pages word n e [] none = refl
number-push Patience word n e [] none = refl
number-push FormatNumber word n e [] none = refl
number-push Seats word n e [] none = refl
number-push Pages word n e (number Pages other m d ∷ uses) none = absurd (cc)
number-push Pages word n e (number Patience other m d ∷ uses) none = number-push Pages word n e uses none
number-push Pages word n e (number FormatNumber other m d ∷ uses) none = number-push Pages word n e uses none
number-push Pages word n e (number Seats other m d ∷ uses) none = number-push Pages word n e uses none
number-push Pages word n e (live ∷ uses) none = number-push Pages word n e uses none
number-push Patience word n e (number Pages other m d ∷ uses) none = number-push Patience word n e uses none
number-push Patience word n e (number Patience other m d ∷ uses) none = absurd (cc)
number-push Patience word n e (number FormatNumber other m d ∷ uses) none = number-push Patience word n e uses none
number-push Patience word n e (number Seats other m d ∷ uses) none = number-push Patience word n e uses none
number-push Patience word n e (live ∷ uses) none = number-push Patience word n e uses none
number-push FormatNumber word n e (number Pages other m d ∷ uses) none = number-push FormatNumber word n e uses none
number-push FormatNumber word n e (number Patience other m d ∷ uses) none = number-push FormatNumber word n e uses none
number-push FormatNumber word n e (number FormatNumber other m d ∷ uses) none = absurd (cc)
number-push FormatNumber word n e (number Seats other m d ∷ uses) none = number-push FormatNumber word n e uses none
number-push FormatNumber word n e (live ∷ uses) none = number-push FormatNumber word n e uses none
number-push Seats word n e (number Pages other m d ∷ uses) none = number-push Seats word n e uses none
number-push Seats word n e (number Patience other m d ∷ uses) none = number-push Seats word n e uses none
number-push Seats word n e (number FormatNumber other m d ∷ uses) none = number-push Seats word n e uses none
number-push Seats word n e (number Seats other m d ∷ uses) none = absurd (cc)
number-push Seats word n e (live ∷ uses) none = number-push Seats word n e uses none

-- what another option has stays
value-push : (key : Key) (last : Use) (uses : List Use) → value_of key (last ∷ []) ≡ None → value_of key (uses ++ last ∷ []) ≡ value_of key uses
value-push key last [] none = none
value-push key last (number other word n e ∷ uses) none = ap (λ (rest : Option ℕ). value_if key other n rest) (value-push key last uses none)
value-push key last (live ∷ uses) none = value-push key last uses none

live-push : (key : Key) (word : Text) (n : ℕ) (e : number_of key word ≡ Some n) (uses : List Use) → is_live (uses ++ number key word n e ∷ []) ≡ is_live uses
live-push key word n e [] = refl
live-push key word n e (number other text m d ∷ uses) = live-push key word n e uses
live-push key word n e (live ∷ uses) = refl

live-on : (uses : List Use) → is_live (uses ++ live ∷ []) ≡ true
live-on [] = refl
live-on (number key word n e ∷ uses) = live-on uses
live-on (live ∷ uses) = refl

abbrev made : Option ℕ → Option ℕ → Option ℕ → Option ℕ → Bool → Options
made pages patience format seats on = record { pages = pages; patience = patience; format = format; seats = seats; live = on }

options-same : (a b c d f g h k : Option ℕ) (x y : Bool) → a ≡ b → c ≡ d → f ≡ g → h ≡ k → x ≡ y → made a c f h x ≡ made b d g k y
options-same a b c d f g h k x y p q s r t =
    ap (λ (o : Option ℕ). made o c f h x) p ∙ ap (λ (o : Option ℕ). made b o f h x) q ∙ ap (λ (o : Option ℕ). made b d o h x) s ∙ ap (λ (o : Option ℕ). made b d g o x) r
    ∙ ap (λ (o : Bool). made b d g k o) t

-- One use of an option.

abbrev use_of : Key → Text → List Use → Kinds
use_of key word before = use_fault false (rule key) (word ∷ []) (rows_for before)

abbrev Takes : Key → Text → List Use → Option Options → Type 0
Takes key word before None = use_of key word before ≡ [] → ⊥
Takes key word before (Some given) = (use_of key word before ≡ []) × (now : List Use) × (used (rule key) (word ∷ []) (rows_for before) ≡ rows_for now) × (options_for now ≡ given)

-- what is wrong with a value, by whether there is one already
abbrev fault_if : Bool → Key → Text → Kinds
fault_if there key word = or_else (cond (there && true) (ArgumentConflict ∷ []) []) (or_else (value_kinds false (Unsigned (least_of key) (most_of key)) word) [])

fault-is : (key : Key) (word : Text) (before : List Use) (b : Bool) → has_row (name_of key) (rows_for before) ≡ b → use_of key word before ≡ fault_if b key word
fault-is Pages word before b e = ap (λ (there : Bool). fault_if there Pages word) e
fault-is Patience word before b e = ap (λ (there : Bool). fault_if there Patience word) e
fault-is FormatNumber word before b e = ap (λ (there : Bool). fault_if there FormatNumber word) e
fault-is Seats word before b e = ap (λ (there : Bool). fault_if there Seats word) e

most-fits : (key : Key) → most_of key ≤ 18446744073709551615
most-fits Pages = omega arith
most-fits Patience = omega arith
most-fits FormatNumber = omega arith
most-fits Seats = omega arith

-- a second value is refused
again : (key : Key) (word : Text) (before : List Use) (m : ℕ) → value_of key before ≡ Some m → use_of key word before ≡ [] → ⊥
again key word before m there e =
    let is : use_of key word before ≡ fault_if true key word = fault-is key word before true (has-number key before ∙ ap is_some there) in
    cc

-- so is what is no number
unread : (key : Key) (word : Text) (before : List Use) → value_of key before ≡ None → number_of key word ≡ None → use_of key word before ≡ [] → ⊥
unread key word before there none e =
    refused (least_of key) (most_of key) word _ (most-fits key) refl none (sym (fault-is key word before false (has-number key before ∙ ap is_some there)) ∙ e)

-- a number is taken
read : (key : Key) (word : Text) (before : List Use) (n : ℕ) → value_of key before ≡ None → number_of key word ≡ Some n → use_of key word before ≡ []
read key word before n there e =
    fault-is key word before false (has-number key before ∙ ap is_some there) ∙ passed (least_of key) (most_of key) word n _ (most-fits key) refl e

took : (key : Key) (word : Text) (before : List Use) → Takes key word before (with_option key word (options_for before))
took Pages word before = go (value_of Pages before) refl (number_of Pages word) refl
  where
    go : (there : Option ℕ) → value_of Pages before ≡ there → (o : Option ℕ) → number_of Pages word ≡ o
        → Takes Pages word before (cond (is_some there) None (option_map (λ n. record (options_for before) { pages = Some n }) o))
    go (Some m) t o e = again Pages word before m t
    go None t None e = unread Pages word before t e
    go None t (Some n) e = (
      read Pages word before n t e,
      before ++ number Pages word n e ∷ [],
      used-number Pages word n e before (has-number Pages before ∙ ap is_some t),
      options-same _ _ _ _ _ _ _ _ _ _ (number-push Pages word n e before t) (value-push Patience (number Pages word n e) before refl) (value-push FormatNumber (number Pages word n e) before refl) (value-push Seats (number Pages word n e) before refl) (live-push Pages word n e before),
    )
took Patience word before = go (value_of Patience before) refl (number_of Patience word) refl
  where
    go : (there : Option ℕ) → value_of Patience before ≡ there → (o : Option ℕ) → number_of Patience word ≡ o
        → Takes Patience word before (cond (is_some there) None (option_map (λ n. record (options_for before) { patience = Some n }) o))
    go (Some m) t o e = again Patience word before m t
    go None t None e = unread Patience word before t e
    go None t (Some n) e = (
      read Patience word before n t e,
      before ++ number Patience word n e ∷ [],
      used-number Patience word n e before (has-number Patience before ∙ ap is_some t),
      options-same _ _ _ _ _ _ _ _ _ _ (value-push Pages (number Patience word n e) before refl) (number-push Patience word n e before t) (value-push FormatNumber (number Patience word n e) before refl) (value-push Seats (number Patience word n e) before refl) (live-push Patience word n e before),
    )
took FormatNumber word before = go (value_of FormatNumber before) refl (number_of FormatNumber word) refl
  where
    go : (there : Option ℕ) → value_of FormatNumber before ≡ there → (o : Option ℕ) → number_of FormatNumber word ≡ o
        → Takes FormatNumber word before (cond (is_some there) None (option_map (λ n. record (options_for before) { format = Some n }) o))
    go (Some m) t o e = again FormatNumber word before m t
    go None t None e = unread FormatNumber word before t e
    go None t (Some n) e = (
      read FormatNumber word before n t e,
      before ++ number FormatNumber word n e ∷ [],
      used-number FormatNumber word n e before (has-number FormatNumber before ∙ ap is_some t),
      options-same _ _ _ _ _ _ _ _ _ _ (value-push Pages (number FormatNumber word n e) before refl) (value-push Patience (number FormatNumber word n e) before refl) (number-push FormatNumber word n e before t) (value-push Seats (number FormatNumber word n e) before refl) (live-push FormatNumber word n e before),
    )
took Seats word before = go (value_of Seats before) refl (number_of Seats word) refl
  where
    go : (there : Option ℕ) → value_of Seats before ≡ there → (o : Option ℕ) → number_of Seats word ≡ o
        → Takes Seats word before (cond (is_some there) None (option_map (λ n. record (options_for before) { seats = Some n }) o))
    go (Some m) t o e = again Seats word before m t
    go None t None e = unread Seats word before t e
    go None t (Some n) e = (
      read Seats word before n t e,
      before ++ number Seats word n e ∷ [],
      used-number Seats word n e before (has-number Seats before ∙ ap is_some t),
      options-same _ _ _ _ _ _ _ _ _ _ (value-push Pages (number Seats word n e) before refl) (value-push Patience (number Seats word n e) before refl) (value-push FormatNumber (number Seats word n e) before refl) (number-push Seats word n e before t) (live-push Seats word n e before),
    )

abbrev live_use : List Use → Kinds
live_use before = use_fault false live_rule [] (rows_for before)

abbrev TakesLive : List Use → Option Options → Type 0
TakesLive before None = live_use before ≡ [] → ⊥
TakesLive before (Some given) = (live_use before ≡ []) × (now : List Use) × (used live_rule [] (rows_for before) ≡ rows_for now) × (options_for now ≡ given)

live-fault : (before : List Use) (b : Bool) → has_row (codes "live") (rows_for before) ≡ b → live_use before ≡ or_else (cond (b && true) (ArgumentConflict ∷ []) []) []
live-fault before b e = ap (λ (there : Bool). or_else (cond (there && true) (ArgumentConflict ∷ []) []) []) e

took-live : (before : List Use) → TakesLive before (with_live (options_for before))
took-live before = go (is_live before) refl
  where
    go : (there : Bool) → is_live before ≡ there → TakesLive before (cond there None (Some (record (options_for before) { live = true })))
    go true t = λ e. let is : live_use before ≡ ArgumentConflict ∷ [] = live-fault before true (has-live before ∙ t) in cc
    go false t = (
      live-fault before false (has-live before ∙ t),
      before ++ live ∷ [],
      used-live before (has-live before ∙ t),
      options-same _ _ _ _ _ _ _ _ _ _ (value-push Pages live before refl) (value-push Patience live before refl) (value-push FormatNumber live before refl) (value-push Seats live before refl) (live-on before),
    )

-- no word that begins with a hyphen is a value
no-value : (key : Key) (bytes : Text) (given : Options) → with_option key (45 ∷ bytes) given ≡ None
no-value Pages bytes given = go (is_some given.pages)
  where
    go : (b : Bool) → cond b None (option_map (λ (n : ℕ). record given { pages = Some n }) (number_in 2 1024 (45 ∷ bytes))) ≡ None
    go true = refl
    go false = ap (option_map (λ (n : ℕ). record given { pages = Some n })) (hyphen 2 1024 bytes)
no-value Patience bytes given = go (is_some given.patience)
  where
    go : (b : Bool) → cond b None (option_map (λ (n : ℕ). record given { patience = Some n }) (number_in 1 1000000000 (45 ∷ bytes))) ≡ None
    go true = refl
    go false = ap (option_map (λ (n : ℕ). record given { patience = Some n })) (hyphen 1 1000000000 bytes)
no-value FormatNumber bytes given = go (is_some given.format)
  where
    go : (b : Bool) → cond b None (option_map (λ (n : ℕ). record given { format = Some n }) (number_in 1 2 (45 ∷ bytes))) ≡ None
    go true = refl
    go false = ap (option_map (λ (n : ℕ). record given { format = Some n })) (hyphen 1 2 bytes)
no-value Seats bytes given = go (is_some given.seats)
  where
    go : (b : Bool) → cond b None (option_map (λ (n : ℕ). record given { seats = Some n }) (number_in 1 256 (45 ∷ bytes))) ≡ None
    go true = refl
    go false = ap (option_map (λ (n : ℕ). record given { seats = Some n })) (hyphen 1 256 bytes)

-- The end of the words.

default-none : (key : Key) (rows : List Row) → default_fault rows (rule key) ≡ []
default-none key rows = either (has_row (name_of key) rows) _ _

live-default-none : (rows : List Row) → default_fault rows live_rule ≡ []
live-default-none rows = go (has_row (codes "live") rows)
  where
    go : (b : Bool) → cond (b || false) [] (let none : Kinds = [] in none) ≡ []
    go true = refl
    go false = refl

defaults-none : (rows : List Row) → defaults_fault rows rules ≡ []
unfolding defaults_fault
defaults-none rows =
    let second = with_default rows (rule Pages) in
    let third = with_default second (rule Patience) in
    let fourth = with_default third (rule FormatNumber) in
    let last = with_default fourth (rule Seats) in
    ap
    (λ (k : Kinds). or_else k (or_else (default_fault second (rule Patience)) (or_else (default_fault third (rule FormatNumber)) (or_else (default_fault fourth (rule Seats)) (or_else (default_fault last live_rule) [])))))
    (default-none Pages rows)
    ∙ ap (λ (k : Kinds). or_else k (or_else (default_fault third (rule FormatNumber)) (or_else (default_fault fourth (rule Seats)) (or_else (default_fault last live_rule) [])))) (default-none Patience second)
    ∙ ap (λ (k : Kinds). or_else k (or_else (default_fault fourth (rule Seats)) (or_else (default_fault last live_rule) []))) (default-none FormatNumber third)
    ∙ both-none _ _ (default-none Seats fourth) (live-default-none last)

abbrev held : List Row → Option (Text × List Text) → Held
held rows pending = record { rows = rows; pending = pending; skip = 0 }

abbrev at : List Row → Option (Text × List Text) → Walk
at rows pending = walk_from (held rows pending)

-- nothing is wrong with what is pending, and these options are given with it
pub record SettlesAs (rows : List Row) (pending : Option (Text × List Text)) (now : List Use) : Type 0 where
  pub fine : settle_fault rules false (held rows pending) ≡ []
  pub same : settled rules (held rows pending) ≡ held (rows_for now) None

idle-end : (rows : List Row) (pending : Option (Text × List Text)) (now : List Use) → SettlesAs rows pending now
    → (ending run_built (held rows pending) ≡ []) × IsUsed (options_for now) (finished rules (held rows pending))
idle-end rows pending now h =
    let none = ap (λ (k : Kinds). or_else k (or_else (defaults_fault (settled rules (held rows pending)).rows rules) [])) h.fine in
    let defaults = ap (λ (k : Kinds). or_else k []) (defaults-none (settled rules (held rows pending)).rows) in
    let rows_are = ap (λ (x : Held). fold with_default x.rows rules) h.same in
    (none ∙ defaults, (now, rows_are, refl))

-- an option waits for its value
abbrev waits_at : List Row → Key → Walk
waits_at rows key = record { held = held rows (Some (name_of key, [])); waiting = waits_for (name_of key); position = 1; is_trailing = false; stopped = None }

-- What is wrong with a word.

plain-wrong : (rows : List Row) (pending : Option (Text × List Text)) (w : Text) → IsNoLong w → short_of w ≡ None
    → turn_fault run_built [] (at rows pending) w ≡ [] → ⊥
plain-wrong rows pending w apart s e =
    let is : turn_fault run_built [] (at rows pending) w ≡ UnknownArgument ∷ [] = rw (apart.not_dashes, apart.no_long, s) refl in
    cc

short-wrong : (rows : List Row) (pending : Option (Text × List Text)) (y : ℕ) (ys : Text) → (y == 45) ≡ false
    → turn_fault run_built [] (at rows pending) (45 ∷ y ∷ ys) ≡ [] → ⊥
unfolding flags_fault bundle_met
short-wrong rows pending y ys differs e = go (slice_get (chars (y ∷ ys)) 0) refl
  where
    go : (o : Option ℕ) → slice_get (chars (y ∷ ys)) 0 ≡ o → ⊥
    go None c =
        let is : turn_fault run_built [] (at rows pending) (45 ∷ y ∷ ys) ≡ UnknownArgument ∷ [] = rw (differs, differs, c) refl in
        cc
    go (Some z) c =
        let is : turn_fault run_built [] (at rows pending) (45 ∷ y ∷ ys) ≡ UnknownArgument ∷ [] = rw (differs, differs, c) refl in
        cc

-- A word that begins with two hyphens.

abbrev trailing : Held → Waiting → Walk
trailing h waiting = record { held = h; waiting = waiting; position = 1; is_trailing = true; stopped = None }

-- after `--`: nothing may follow
trailing-more : (h : Held) (waiting : Waiting) (word : Text) (words : List Text) → total run_built (trailing h waiting) (word ∷ words) ≡ [] → ⊥
trailing-more h waiting word words e = wrong-step IsUsed run_built (trailing h waiting) (trailing h waiting) word words (λ is. cc) e

trailing-end : (h : Held) (waiting : Waiting) (words : List Text) → (ending run_built h ≡ [] → ⊥) → total run_built (trailing h waiting) words ≡ [] → ⊥
trailing-end h waiting [] wrong e = wrong (sym (total-nil run_built (trailing h waiting)) ∙ e)
trailing-end h waiting (word ∷ words) wrong e = trailing-more h waiting word words e

dashes-walk : (rows : List Row) (pending : Option (Text × List Text)) → walked rules [] (at rows pending) (45 ∷ 45 ∷ []) ≡ trailing (held rows pending) idle
unfolding walked
dashes-walk rows pending = refl

-- the name and the value of a long word
abbrev long_name : ℕ → Text → Text
long_name z zs = before_first (λ x. x == 61) (z ∷ zs)

abbrev long_value : ℕ → Text → Option Text
long_value z zs = behind_equals (z ∷ zs)

-- the option of a name
abbrev arg_of : Option Key → Text → Option Rule
arg_of None name = cond (bytes_eq (codes "live") name) (Some live_rule) None
arg_of (Some key) name = Some (rule key)

arg-named : (name : Text) → arg_by_long rules name ≡ arg_of (key_named name) name
arg-named name =
    go (bytes_eq (codes "pages") name) (bytes_eq (codes "patience") name) (bytes_eq (codes "format") name) (bytes_eq (codes "seats") name) (bytes_eq (codes "live") name) refl refl refl refl refl
  where
    go : (a b c i l : Bool) → bytes_eq (codes "pages") name ≡ a → bytes_eq (codes "patience") name ≡ b → bytes_eq (codes "format") name ≡ c → bytes_eq (codes "seats") name ≡ i → bytes_eq (codes "live") name ≡ l
        → arg_by_long rules name ≡ arg_of (key_named name) name
    go true b c i l e d f g h = rw e refl
    go false true c i l e d f g h = rw (e, d) refl
    go false false true i l e d f g h = rw (e, d, f) refl
    go false false false true l e d f g h = rw (e, d, f, g) refl
    go false false false false true e d f g h = rw (e, d, f, g, h) refl
    go false false false false false e d f g h = rw (e, d, f, g, h) refl

module _ (rows : List Row) (pending : Option (Text × List Text)) (z : ℕ) (zs : Text) where
  abbrev the_word : Text
  the_word = 45 ∷ 45 ∷ z ∷ zs

  abbrev long_turn : Option Rule → Option Text → Kinds
  long_turn a v =
      or_else (long_fault rules false a v (held rows pending))
      (step_fault run_built 1 (after_flag rules idle the_word (long_met rules a v (held rows pending)).0 (long_met rules a v (held rows pending)).1).0
      (after_flag rules idle the_word (long_met rules a v (held rows pending)).0 (long_met rules a v (held rows pending)).1).1)

  abbrev long_walk : Option Rule → Option Text → Walk
  long_walk a v =
      after_step rules the_word (at rows pending) (after_flag rules idle the_word (long_met rules a v (held rows pending)).0 (long_met rules a v (held rows pending)).1).0
      (after_flag rules idle the_word (long_met rules a v (held rows pending)).0 (long_met rules a v (held rows pending)).1).1

  long-turn : turn_fault run_built [] (at rows pending) the_word ≡ long_turn (arg_of (key_named (long_name z zs)) (long_name z zs)) (long_value z zs)
  long-turn = ap (λ (a : Option Rule). long_turn a (long_value z zs)) (arg-named (long_name z zs))

  long-walk : walked rules [] (at rows pending) the_word ≡ long_walk (arg_of (key_named (long_name z zs)) (long_name z zs)) (long_value z zs)
  unfolding walked
  long-walk = ap (λ (a : Option Rule). long_walk a (long_value z zs)) (arg-named (long_name z zs))

  -- no option has the name
  long-unknown : key_named (long_name z zs) ≡ None → bytes_eq (codes "live") (long_name z zs) ≡ false → turn_fault run_built [] (at rows pending) the_word ≡ [] → ⊥
  long-unknown unknown other e =
      let is : turn_fault run_built [] (at rows pending) the_word ≡ long_turn None (long_value z zs) =
      long-turn ∙ ap (λ (o : Option Key). long_turn (arg_of o (long_name z zs)) (long_value z zs)) unknown
      ∙ ap (λ (b : Bool). long_turn (cond b (Some live_rule) None) (long_value z zs)) other in
      cc

  module _ (unknown : key_named (long_name z zs) ≡ None) (named : bytes_eq (codes "live") (long_name z zs) ≡ true) where
    -- `--live`
    long-lives : long_value z zs ≡ None
        → (turn_fault run_built [] (at rows pending) the_word
        ≡ or_else (or_else (settle_fault rules false (held rows pending)) (use_fault false live_rule [] (settled rules (held rows pending)).rows)) [])
        × (walked rules [] (at rows pending) the_word ≡ at (used live_rule [] (settled rules (held rows pending)).rows) None)
    long-lives v = (
      long-turn ∙ ap (λ (o : Option Key). long_turn (arg_of o (long_name z zs)) (long_value z zs)) unknown
          ∙ ap (λ (b : Bool). long_turn (cond b (Some live_rule) None) (long_value z zs)) named ∙ ap (λ (t : Option Text). long_turn (Some live_rule) t) v,
      long-walk ∙ ap (λ (o : Option Key). long_walk (arg_of o (long_name z zs)) (long_value z zs)) unknown
          ∙ ap (λ (b : Bool). long_walk (cond b (Some live_rule) None) (long_value z zs)) named ∙ ap (λ (t : Option Text). long_walk (Some live_rule) t) v,
    )

    -- it has no value
    long-valued : (value : Text) → long_value z zs ≡ Some value → turn_fault run_built [] (at rows pending) the_word ≡ [] → ⊥
    long-valued value v e =
        let is : turn_fault run_built [] (at rows pending) the_word ≡ long_turn (Some live_rule) (Some value) =
        long-turn ∙ ap (λ (o : Option Key). long_turn (arg_of o (long_name z zs)) (long_value z zs)) unknown
        ∙ ap (λ (b : Bool). long_turn (cond b (Some live_rule) None) (long_value z zs)) named ∙ ap (λ (t : Option Text). long_turn (Some live_rule) t) v in
        cc

  -- an option whose value is to come
  long-opens : (key : Key) → key_named (long_name z zs) ≡ Some key → long_value z zs ≡ None
      → (turn_fault run_built [] (at rows pending) the_word ≡ or_else (settle_fault rules false (held rows pending)) [])
      × (walked rules [] (at rows pending) the_word ≡ waits_at (settled rules (held rows pending)).rows key)
  long-opens key e v = (
    long-turn ∙ ap (λ (o : Option Key). long_turn (arg_of o (long_name z zs)) (long_value z zs)) e ∙ ap (λ (t : Option Text). long_turn (Some (rule key)) t) v,
    long-walk ∙ ap (λ (o : Option Key). long_walk (arg_of o (long_name z zs)) (long_value z zs)) e ∙ ap (λ (t : Option Text). long_walk (Some (rule key)) t) v,
  )

  -- an option with its value
  long-sets : (key : Key) (value : Text) → key_named (long_name z zs) ≡ Some key → long_value z zs ≡ Some value
      → (turn_fault run_built [] (at rows pending) the_word
      ≡ or_else (or_else (settle_fault rules false (held rows pending)) (use_fault false (rule key) (value ∷ []) (settled rules (held rows pending)).rows)) [])
      × (walked rules [] (at rows pending) the_word ≡ at (used (rule key) (value ∷ []) (settled rules (held rows pending)).rows) None)
  long-sets key value e v = (
    long-turn ∙ ap (λ (o : Option Key). long_turn (arg_of o (long_name z zs)) (long_value z zs)) e ∙ ap (λ (t : Option Text). long_turn (Some (rule key)) t) v,
    long-walk ∙ ap (λ (o : Option Key). long_walk (arg_of o (long_name z zs)) (long_value z zs)) e ∙ ap (λ (t : Option Text). long_walk (Some (rule key)) t) v,
  )

-- What is pending is at fault: so are the words, whatever follows.

doomed-long : (rows : List Row) (pending : Option (Text × List Text)) (z : ℕ) (zs : Text) → (settle_fault rules false (held rows pending) ≡ [] → ⊥)
    → (o : Option Key) → key_named (long_name z zs) ≡ o → (v : Option Text) → long_value z zs ≡ v
    → turn_fault run_built [] (at rows pending) (45 ∷ 45 ∷ z ∷ zs) ≡ [] → ⊥
doomed-long rows pending z zs wrong None e v d is = go (bytes_eq (codes "live") (long_name z zs)) refl v d
  where
    go : (b : Bool) → bytes_eq (codes "live") (long_name z zs) ≡ b → (t : Option Text) → long_value z zs ≡ t → ⊥
    go false other t x = long-unknown rows pending z zs e other is
    go true named None x =
        wrong (or-first _ (use_fault false live_rule [] (settled rules (held rows pending)).rows) (or-first _ [] (sym (long-lives rows pending z zs e named x).0 ∙ is)))
    go true named (Some value) x = long-valued rows pending z zs e named value x is
doomed-long rows pending z zs wrong (Some key) e None d is = wrong (or-first _ [] (sym (long-opens rows pending z zs key e d).0 ∙ is))
doomed-long rows pending z zs wrong (Some key) e (Some value) d is =
    wrong (or-first _ (use_fault false (rule key) (value ∷ []) (settled rules (held rows pending)).rows) (or-first _ [] (sym (long-sets rows pending z zs key value e d).0 ∙ is)))

doomed : (words : List Text) (rows : List Row) (pending : Option (Text × List Text)) → (settle_fault rules false (held rows pending) ≡ [] → ⊥)
    → total run_built (at rows pending) words ≡ [] → ⊥
doomed [] rows pending wrong e = wrong (or-first _ _ (sym (total-nil run_built (at rows pending)) ∙ e))
doomed (word ∷ words) rows pending wrong e = go word (form word) e
  where
    end : ending run_built (held rows pending) ≡ [] → ⊥
    end is = wrong (or-first _ _ is)

    go : (w : Text) → Form w → total run_built (at rows pending) (w ∷ words) ≡ [] → ⊥
    go _ (plain w apart s) is = wrong-step IsUsed run_built (at rows pending) (at rows pending) w words (plain-wrong rows pending w apart s) is
    go _ (short y ys differs) is = wrong-step IsUsed run_built (at rows pending) (at rows pending) (45 ∷ y ∷ ys) words (short-wrong rows pending y ys differs) is
    go _ dashes is =
        later-step IsUsed run_built (at rows pending) (trailing (held rows pending) idle) (45 ∷ 45 ∷ []) words (dashes-walk rows pending) (trailing-end (held rows pending) idle words end) is
    go _ (long z zs) is =
        wrong-step IsUsed run_built (at rows pending) (at rows pending) (45 ∷ 45 ∷ z ∷ zs) words
        (doomed-long rows pending z zs wrong (key_named (long_name z zs)) refl (long_value z zs) refl) is

-- An option waits for its value.

waiting-fault : (rows : List Row) (key : Key) → settle_fault rules false (held rows (Some (name_of key, []))) ≡ InvalidValue ∷ []
waiting-fault rows Pages = refl
waiting-fault rows Patience = refl
waiting-fault rows FormatNumber = refl
waiting-fault rows Seats = refl

-- the word is its value
value-turn : (rows : List Row) (key : Key) (w : Text) → IsNoLong w → short_of w ≡ None → turn_fault run_built [] (waits_at rows key) w ≡ []
value-turn rows key w apart s = rw (apart.not_dashes, apart.no_long, s) refl

value-walk : (rows : List Row) (key : Key) (w : Text) → IsNoLong w → short_of w ≡ None → walked rules [] (waits_at rows key) w ≡ at rows (Some (name_of key, w ∷ []))
unfolding walked
value-walk rows Pages w apart s = rw (apart.not_dashes, apart.no_long, s) refl
value-walk rows Patience w apart s = rw (apart.not_dashes, apart.no_long, s) refl
value-walk rows FormatNumber w apart s = rw (apart.not_dashes, apart.no_long, s) refl
value-walk rows Seats w apart s = rw (apart.not_dashes, apart.no_long, s) refl

-- a short flag is no option, and a word that is none of UTF-8 no number
waiting-short : (rows : List Row) (key : Key) (y : ℕ) (ys : Text) (words : List Text) → (y == 45) ≡ false
    → (total run_built (at rows (Some (name_of key, (45 ∷ y ∷ ys) ∷ []))) words ≡ [] → ⊥)
    → total run_built (waits_at rows key) ((45 ∷ y ∷ ys) ∷ words) ≡ [] → ⊥
unfolding walked flags_fault bundle_met
waiting-short rows key y ys words differs later = go (slice_get (chars (y ∷ ys)) 0) refl
  where
    comes : (k : Key) → slice_get (chars (y ∷ ys)) 0 ≡ None → walked rules [] (waits_at rows k) (45 ∷ y ∷ ys) ≡ at rows (Some (name_of k, (45 ∷ y ∷ ys) ∷ []))
    comes Pages c = rw (differs, differs, c) refl
    comes Patience c = rw (differs, differs, c) refl
    comes FormatNumber c = rw (differs, differs, c) refl
    comes Seats c = rw (differs, differs, c) refl

    go : (o : Option ℕ) → slice_get (chars (y ∷ ys)) 0 ≡ o → total run_built (waits_at rows key) ((45 ∷ y ∷ ys) ∷ words) ≡ [] → ⊥
    go None c = later-step IsUsed run_built (waits_at rows key) (at rows (Some (name_of key, (45 ∷ y ∷ ys) ∷ []))) (45 ∷ y ∷ ys) words (comes key c) later
    go (Some x) c =
        let is : turn_fault run_built [] (waits_at rows key) (45 ∷ y ∷ ys) ≡ UnknownArgument ∷ [] = rw (differs, differs, c) refl in
        wrong-step IsUsed run_built (waits_at rows key) (waits_at rows key) (45 ∷ y ∷ ys) words (λ e. cc)

waiting-dashes : (rows : List Row) (key : Key) (words : List Text) → total run_built (waits_at rows key) ((45 ∷ 45 ∷ []) ∷ words) ≡ [] → ⊥
unfolding walked
waiting-dashes rows key words =
    later-step IsUsed run_built (waits_at rows key) (trailing (held rows (Some (name_of key, []))) (waits_for (name_of key))) (45 ∷ 45 ∷ []) words refl
    (trailing-end (held rows (Some (name_of key, []))) (waits_for (name_of key)) words (λ e. let bad = sym (waiting-fault rows key) ∙ or-first _ _ e in cc))

-- a long flag is no value
waiting-long : (rows : List Row) (key : Key) (z : ℕ) (zs : Text) (words : List Text) → total run_built (waits_at rows key) ((45 ∷ 45 ∷ z ∷ zs) ∷ words) ≡ [] → ⊥
waiting-long rows key z zs words =
    wrong-step IsUsed run_built (waits_at rows key) (waits_at rows key) (45 ∷ 45 ∷ z ∷ zs) words (λ e. faults (arg_by_long rules (long_name z zs)) (long_value z zs) (or-first _ _ e))
  where
    faults : (a : Option Rule) (v : Option Text) → long_fault rules false a v (held rows (Some (name_of key, []))) ≡ [] → ⊥
    faults None v e = cc
    faults (Some a) v e = values (takes_values a) v e
      where
        values : (b : Bool) (v : Option Text)
            → cond b (option_fault rules false a v (held rows (Some (name_of key, [])))) (cond (is_some v) (TooManyValues ∷ []) (react_fault rules false a [] (held rows (Some (name_of key, []))))) ≡ []
            → ⊥
        values true None e = let bad = sym (waiting-fault rows key) ∙ e in cc
        values true (Some t) e = let bad = sym (waiting-fault rows key) ∙ or-first _ _ e in cc
        values false None e = let bad = sym (waiting-fault rows key) ∙ or-first _ _ e in cc
        values false (Some t) e = cc

-- The words, one after another.

abbrev Idle : List Text → Type 0
Idle words = (rows : List Row) (pending : Option (Text × List Text)) (before : List Use) → SettlesAs rows pending before
    → Agrees IsUsed (options_after words (options_for before) None) (total run_built (at rows pending) words) (found run_built (at rows pending) words)

abbrev Waits : List Text → Type 0
Waits words = (before : List Use) (key : Key)
    → Agrees IsUsed (options_after words (options_for before) (Some key)) (total run_built (waits_at (rows_for before) key) words) (found run_built (waits_at (rows_for before) key) words)

-- the options that are given are those of an equal record
same-options : (o : Options → Option Options) (a b : Options) (kinds : Kinds) (rows : List Row) → a ≡ b → Agrees IsUsed (o a) kinds rows → Agrees IsUsed (o b) kinds rows
same-options o a b kinds rows e h = subst (λ (x : Options). Agrees IsUsed (o x) kinds rows) e h

settle-filled : (rows : List Row) (key : Key) (w : Text) → settle_fault rules false (held rows (Some (name_of key, w ∷ []))) ≡ use_fault false (rule key) (w ∷ []) rows
settle-filled rows Pages w = refl
settle-filled rows Patience w = refl
settle-filled rows FormatNumber w = refl
settle-filled rows Seats w = refl

settled-filled : (rows : List Row) (key : Key) (w : Text) → settled rules (held rows (Some (name_of key, w ∷ []))) ≡ held (used (rule key) (w ∷ []) rows) None
settled-filled rows Pages w = refl
settled-filled rows Patience w = refl
settled-filled rows FormatNumber w = refl
settled-filled rows Seats w = refl

held-rows : (a b : List Row) → a ≡ b → held a None ≡ held b None
held-rows a b e = ap (λ (rows : List Row). held rows None) e

-- a value that has been read, and what follows
filled : (words : List Text) → Idle words → (before : List Use) (key : Key) (w : Text)
    → Agrees IsUsed (option_and_then (λ more. options_after words more None) (with_option key w (options_for before)))
    (total run_built (at (rows_for before) (Some (name_of key, w ∷ []))) words) (found run_built (at (rows_for before) (Some (name_of key, w ∷ []))) words)
filled words idle_words before key w = go (with_option key w (options_for before)) (took key w before)
  where
    go : (o : Option Options) → Takes key w before o
        → Agrees IsUsed (option_and_then (λ more. options_after words more None) o)
        (total run_built (at (rows_for before) (Some (name_of key, w ∷ []))) words) (found run_built (at (rows_for before) (Some (name_of key, w ∷ []))) words)
    go None wrong = doomed words (rows_for before) (Some (name_of key, w ∷ [])) (λ e. wrong (sym (settle-filled (rows_for before) key w) ∙ e))
    go (Some given) t =
        same-options (λ more. options_after words more None) (options_for t.1) given _ _ t.3
        (idle_words (rows_for before) (Some (name_of key, w ∷ [])) t.1
        (record { fine = settle-filled (rows_for before) key w ∙ t.0; same = settled-filled (rows_for before) key w ∙ held-rows _ _ t.2 }))

-- no value, so no options
no-options : (key : Key) (bytes : Text) (words : List Text) (given : Options) (kinds : Kinds) (rows : List Row) → (kinds ≡ [] → ⊥)
    → Agrees IsUsed (option_and_then (λ more. options_after words more None) (with_option key (45 ∷ bytes) given)) kinds rows
no-options key bytes words given kinds rows wrong =
    subst (λ (o : Option Options). Agrees IsUsed (option_and_then (λ more. options_after words more None) o) kinds rows) (sym (no-value key bytes given)) wrong

-- a word that says nothing, so no options
no-word : (w : Text) (words : List Text) (given : Options) (kinds : Kinds) (rows : List Row) → bytes_eq (take 2 w) (codes "--") ≡ false → (kinds ≡ [] → ⊥)
    → Agrees IsUsed (options_after (w ∷ words) given None) kinds rows
no-word w words given kinds rows front wrong =
    subst (λ (b : Bool). Agrees IsUsed (by_word (cond b (says_behind (drop 2 w)) Nothing) words given (options_after words)) kinds rows) (sym front) wrong

waits-word : (w : Text) (words : List Text) → Idle words → Form w → (before : List Use) (key : Key)
    → Agrees IsUsed (options_after (w ∷ words) (options_for before) (Some key))
    (total run_built (waits_at (rows_for before) key) (w ∷ words)) (found run_built (waits_at (rows_for before) key) (w ∷ words))
waits-word _ words idle_words (plain w apart s) before key =
    agrees-step IsUsed run_built (waits_at (rows_for before) key) (at (rows_for before) (Some (name_of key, w ∷ []))) w words
    (option_and_then (λ more. options_after words more None) (with_option key w (options_for before)))
    (value-turn (rows_for before) key w apart s) (value-walk (rows_for before) key w apart s) (filled words idle_words before key w)
waits-word _ words idle_words (short y ys differs) before key =
    no-options key (y ∷ ys) words (options_for before) _ _
    (waiting-short (rows_for before) key y ys words differs (wrong (with_option key (45 ∷ y ∷ ys) (options_for before)) (no-value key (y ∷ ys) (options_for before)) (filled words idle_words before key (45 ∷ y ∷ ys))))
  where
    wrong : (o : Option Options) → o ≡ None
        → Agrees IsUsed (option_and_then (λ more. options_after words more None) o)
        (total run_built (at (rows_for before) (Some (name_of key, (45 ∷ y ∷ ys) ∷ []))) words) (found run_built (at (rows_for before) (Some (name_of key, (45 ∷ y ∷ ys) ∷ []))) words)
        → total run_built (at (rows_for before) (Some (name_of key, (45 ∷ y ∷ ys) ∷ []))) words ≡ [] → ⊥
    wrong None e h = h
    wrong (Some given) e h = absurd (cc)
waits-word _ words idle_words dashes before key =
    no-options key (45 ∷ []) words (options_for before) _ _ (waiting-dashes (rows_for before) key words)
waits-word _ words idle_words (long z zs) before key =
    no-options key (45 ∷ z ∷ zs) words (options_for before) _ _ (waiting-long (rows_for before) key z zs words)

idle-dashes : (words : List Text) (rows : List Row) (pending : Option (Text × List Text)) (before : List Use) → SettlesAs rows pending before
    → Agrees IsUsed (if_last words (options_for before)) (total run_built (at rows pending) ((45 ∷ 45 ∷ []) ∷ words)) (found run_built (at rows pending) ((45 ∷ 45 ∷ []) ∷ words))
idle-dashes [] rows pending before h =
    agrees-step IsUsed run_built (at rows pending) (trailing (held rows pending) idle) (45 ∷ 45 ∷ []) [] (Some (options_for before)) refl (dashes-walk rows pending)
    (let end = idle-end rows pending before h in (total-nil run_built (trailing (held rows pending) idle) ∙ end.0, end.1))
idle-dashes (word ∷ words) rows pending before h =
    later-step IsUsed run_built (at rows pending) (trailing (held rows pending) idle) (45 ∷ 45 ∷ []) (word ∷ words) (dashes-walk rows pending) (trailing-more (held rows pending) idle word words)

idle-long : (words : List Text) → Idle words → Waits words → (rows : List Row) (pending : Option (Text × List Text)) (before : List Use) → SettlesAs rows pending before
    → (z : ℕ) (zs : Text) (o : Option Key) → key_named (long_name z zs) ≡ o → (v : Option Text) → long_value z zs ≡ v
    → Agrees IsUsed (by_word (says_of o (long_name z zs) v) words (options_for before) (options_after words))
    (total run_built (at rows pending) ((45 ∷ 45 ∷ z ∷ zs) ∷ words)) (found run_built (at rows pending) ((45 ∷ 45 ∷ z ∷ zs) ∷ words))
idle-long words idle_words waits_words rows pending before h z zs None e v d = go (bytes_eq (codes "live") (long_name z zs)) refl v d
  where
    go : (b : Bool) → bytes_eq (codes "live") (long_name z zs) ≡ b → (t : Option Text) → long_value z zs ≡ t
        → Agrees IsUsed (by_word (cond b (live_unless_set t) Nothing) words (options_for before) (options_after words))
        (total run_built (at rows pending) ((45 ∷ 45 ∷ z ∷ zs) ∷ words)) (found run_built (at rows pending) ((45 ∷ 45 ∷ z ∷ zs) ∷ words))
    go false other t x =
        wrong-step IsUsed run_built (at rows pending) (at rows pending) (45 ∷ 45 ∷ z ∷ zs) words (long-unknown rows pending z zs e other)
    go true named (Some value) x =
        wrong-step IsUsed run_built (at rows pending) (at rows pending) (45 ∷ 45 ∷ z ∷ zs) words (long-valued rows pending z zs e named value x)
    go true named None x = takes (with_live (options_for before)) (took-live before)
      where
        turn : turn_fault run_built [] (at rows pending) (45 ∷ 45 ∷ z ∷ zs) ≡ or_else (live_use before) []
        turn =
            (long-lives rows pending z zs e named x).0
            ∙ ap (λ (k : Kinds). or_else (or_else k (use_fault false live_rule [] (settled rules (held rows pending)).rows)) []) h.fine
            ∙ ap (λ (there : Held). or_else (use_fault false live_rule [] there.rows) []) h.same

        comes : walked rules [] (at rows pending) (45 ∷ 45 ∷ z ∷ zs) ≡ at (used live_rule [] (rows_for before)) None
        comes = (long-lives rows pending z zs e named x).1 ∙ ap (λ (there : Held). at (used live_rule [] there.rows) None) h.same

        takes : (o : Option Options) → TakesLive before o
            → Agrees IsUsed (option_and_then (λ more. options_after words more None) o)
            (total run_built (at rows pending) ((45 ∷ 45 ∷ z ∷ zs) ∷ words)) (found run_built (at rows pending) ((45 ∷ 45 ∷ z ∷ zs) ∷ words))
        takes None wrong =
            wrong-step IsUsed run_built (at rows pending) (at rows pending) (45 ∷ 45 ∷ z ∷ zs) words (λ is. wrong (or-first _ _ (sym turn ∙ is)))
        takes (Some given) t =
            agrees-step IsUsed run_built (at rows pending) (at (rows_for t.1) None) (45 ∷ 45 ∷ z ∷ zs) words (options_after words given None)
            (turn ∙ ap (λ (k : Kinds). or_else k []) t.0)
            (comes ∙ ap (λ (there : List Row). at there None) t.2)
            (same-options (λ more. options_after words more None) (options_for t.1) given _ _ t.3 (idle_words (rows_for t.1) None t.1 (record { fine = refl; same = refl })))
idle-long words idle_words waits_words rows pending before h z zs (Some key) e None d =
    let opens = long-opens rows pending z zs key e d in
    agrees-step IsUsed run_built (at rows pending) (waits_at (rows_for before) key) (45 ∷ 45 ∷ z ∷ zs) words (options_after words (options_for before) (Some key))
    (opens.0 ∙ ap (λ (k : Kinds). or_else k []) h.fine)
    (opens.1 ∙ ap (λ (x : Held). waits_at x.rows key) h.same)
    (waits_words before key)
idle-long words idle_words waits_words rows pending before h z zs (Some key) e (Some value) d = go (with_option key value (options_for before)) (took key value before)
  where
    turn : turn_fault run_built [] (at rows pending) (45 ∷ 45 ∷ z ∷ zs) ≡ or_else (use_of key value before) []
    turn =
        (long-sets rows pending z zs key value e d).0
        ∙ ap (λ (k : Kinds). or_else (or_else k (use_fault false (rule key) (value ∷ []) (settled rules (held rows pending)).rows)) []) h.fine
        ∙ ap (λ (x : Held). or_else (use_fault false (rule key) (value ∷ []) x.rows) []) h.same

    comes : walked rules [] (at rows pending) (45 ∷ 45 ∷ z ∷ zs) ≡ at (used (rule key) (value ∷ []) (rows_for before)) None
    comes = (long-sets rows pending z zs key value e d).1 ∙ ap (λ (x : Held). at (used (rule key) (value ∷ []) x.rows) None) h.same

    go : (o : Option Options) → Takes key value before o
        → Agrees IsUsed (option_and_then (λ more. options_after words more None) o)
        (total run_built (at rows pending) ((45 ∷ 45 ∷ z ∷ zs) ∷ words)) (found run_built (at rows pending) ((45 ∷ 45 ∷ z ∷ zs) ∷ words))
    go None wrong =
        wrong-step IsUsed run_built (at rows pending) (at rows pending) (45 ∷ 45 ∷ z ∷ zs) words (λ is. wrong (or-first _ _ (sym turn ∙ is)))
    go (Some given) t =
        agrees-step IsUsed run_built (at rows pending) (at (rows_for t.1) None) (45 ∷ 45 ∷ z ∷ zs) words (options_after words given None)
        (turn ∙ ap (λ (k : Kinds). or_else k []) t.0)
        (comes ∙ ap (λ (x : List Row). at x None) t.2)
        (same-options (λ more. options_after words more None) (options_for t.1) given _ _ t.3 (idle_words (rows_for t.1) None t.1 (record { fine = refl; same = refl })))

idle-word : (w : Text) (words : List Text) → Idle words → Waits words → Form w → (rows : List Row) (pending : Option (Text × List Text)) (before : List Use) → SettlesAs rows pending before
    → Agrees IsUsed (options_after (w ∷ words) (options_for before) None) (total run_built (at rows pending) (w ∷ words)) (found run_built (at rows pending) (w ∷ words))
idle-word _ words idle_words waits_words (plain w apart s) rows pending before h =
    no-word w words (options_for before) _ _ apart.front (wrong-step IsUsed run_built (at rows pending) (at rows pending) w words (plain-wrong rows pending w apart s))
idle-word _ words idle_words waits_words (short y ys differs) rows pending before h =
    no-word (45 ∷ y ∷ ys) words (options_for before) _ _ (rw differs refl)
    (wrong-step IsUsed run_built (at rows pending) (at rows pending) (45 ∷ y ∷ ys) words (short-wrong rows pending y ys differs))
idle-word _ words idle_words waits_words dashes rows pending before h = idle-dashes words rows pending before h
idle-word _ words idle_words waits_words (long z zs) rows pending before h =
    idle-long words idle_words waits_words rows pending before h z zs (key_named (long_name z zs)) refl (long_value z zs) refl

claims : (words : List Text) → Idle words × Waits words
claims [] = (
  λ rows pending before h. let end = idle-end rows pending before h in (total-nil run_built (at rows pending) ∙ end.0, end.1),
  λ before key e. let bad = sym (waiting-fault (rows_for before) key) ∙ or-first _ _ (sym (total-nil run_built (waits_at (rows_for before) key)) ∙ e) in cc,
)
claims (w ∷ words) = (idle-word w words (claims words).0 (claims words).1 (form w), waits-word w words (claims words).0 (form w))

-- what `clap` makes of the words of `run`
run-agrees : (words : List Text)
    → Agrees IsUsed (options_after words no_options None) (total run_built (walk_from nothing_held) words) (found run_built (walk_from nothing_held) words)
run-agrees words = (claims words).0 [] None [] (record { fine = refl; same = refl })

-- What `clap` makes of the words of another command with these options: the name makes no difference.

walk-renamed : (which : Optioned) (w : Walk) (words : List Text) → walk_fault (options_built which) [] w words ≡ walk_fault run_built [] w words
unfolding walk_fault
walk-renamed which w [] = refl
walk-renamed which w (word ∷ words) =
    ap (λ (k : Kinds). or_else (turn_fault run_built [] w word) k) (walk-renamed which (walked rules [] w word) words)

total-renamed : (which : Optioned) (words : List Text) → total (options_built which) (walk_from nothing_held) words ≡ total run_built (walk_from nothing_held) words
total-renamed which words = ap (λ (k : Kinds). or_else k (ending run_built (walk_end run_built (walk_from nothing_held) words))) (walk-renamed which (walk_from nothing_held) words)

-- a walk over the words and what the rules of the command line find of them agree
pub options-agree : (which : Optioned) (words : List Text)
    → Agrees IsUsed (options_after words no_options None) (total (options_built which) (walk_from nothing_held) words) (found (options_built which) (walk_from nothing_held) words)
options-agree which words =
    subst (λ (k : Kinds). Agrees IsUsed (options_after words no_options None) k (found run_built (walk_from nothing_held) words)) (sym (total-renamed which words)) (run-agrees words)

-- What is found of them.

-- `--live` has its default where it is not given
abbrev live_default : Bool → List Row
live_default true = []
live_default false = live_row DefaultValue (codes "false") ∷ []

no-default : (key : Key) (rows : List Row) → with_default rows (rule key) ≡ rows
no-default key rows = go (has_row (name_of key) rows)
  where
    go : (b : Bool) → cond b rows rows ≡ rows
    go true = refl
    go false = refl

with-live : (uses : List Use) (b : Bool) → is_live uses ≡ b → with_default (rows_for uses) live_rule ≡ rows_for uses ++ live_default b
with-live uses true e =
    ap (λ (there : Bool). cond there (rows_for uses) (with_values (codes "live") AsWritten DefaultValue (codes "false" ∷ []) (rows_for uses))) (has-live uses ∙ e)
    ∙ sym (append-nil (rows_for uses))
with-live uses false e =
    ap (λ (there : Bool). cond there (rows_for uses) (with_values (codes "live") AsWritten DefaultValue (codes "false" ∷ []) (rows_for uses))) (has-live uses ∙ e)
    ∙ new-row (codes "live") (more_values DefaultValue (codes "false" ∷ [])) (live_row DefaultValue (codes "false") ∷ []) (rows_for uses) (has-live uses ∙ e)

at-end : (uses : List Use) → rows_at_end uses ≡ rows_for uses ++ live_default (is_live uses)
at-end uses =
    ap (λ (rows : List Row). with_default (with_default (with_default (with_default rows (rule Patience)) (rule FormatNumber)) (rule Seats)) live_rule) (no-default Pages (rows_for uses))
    ∙ ap (λ (rows : List Row). with_default (with_default (with_default rows (rule FormatNumber)) (rule Seats)) live_rule) (no-default Patience (rows_for uses))
    ∙ ap (λ (rows : List Row). with_default (with_default rows (rule Seats)) live_rule) (no-default FormatNumber (rows_for uses))
    ∙ ap (λ (rows : List Row). with_default rows live_rule) (no-default Seats (rows_for uses))
    ∙ with-live uses (is_live uses) refl

found-number : (key : Key) (uses : List Use) (rest : List Row) → one_of (name_of key) rest ≡ None → IsFoundAs (least_of key) (most_of key) (name_of key) (rows_for uses ++ rest) (value_of key uses)
found-number Pages [] rest none = none
found-number Pages (number Pages word n e ∷ uses) rest none = (word, refl, e)
found-number Pages (number Patience word n e ∷ uses) rest none = found-number Pages uses rest none
found-number Pages (number FormatNumber word n e ∷ uses) rest none = found-number Pages uses rest none
found-number Pages (number Seats word n e ∷ uses) rest none = found-number Pages uses rest none
found-number Pages (live ∷ uses) rest none = found-number Pages uses rest none
found-number Patience [] rest none = none
found-number Patience (number Pages word n e ∷ uses) rest none = found-number Patience uses rest none
found-number Patience (number Patience word n e ∷ uses) rest none = (word, refl, e)
found-number Patience (number FormatNumber word n e ∷ uses) rest none = found-number Patience uses rest none
found-number Patience (number Seats word n e ∷ uses) rest none = found-number Patience uses rest none
found-number Patience (live ∷ uses) rest none = found-number Patience uses rest none
found-number FormatNumber [] rest none = none
found-number FormatNumber (number Pages word n e ∷ uses) rest none = found-number FormatNumber uses rest none
found-number FormatNumber (number Patience word n e ∷ uses) rest none = found-number FormatNumber uses rest none
found-number FormatNumber (number FormatNumber word n e ∷ uses) rest none = (word, refl, e)
found-number FormatNumber (number Seats word n e ∷ uses) rest none = found-number FormatNumber uses rest none
found-number FormatNumber (live ∷ uses) rest none = found-number FormatNumber uses rest none
found-number Seats [] rest none = none
found-number Seats (number Pages word n e ∷ uses) rest none = found-number Seats uses rest none
found-number Seats (number Patience word n e ∷ uses) rest none = found-number Seats uses rest none
found-number Seats (number FormatNumber word n e ∷ uses) rest none = found-number Seats uses rest none
found-number Seats (number Seats word n e ∷ uses) rest none = (word, refl, e)
found-number Seats (live ∷ uses) rest none = found-number Seats uses rest none

found-live : (uses : List Use) (rest : List Row) → (is_live uses ≡ false → one_of (codes "live") rest ≡ Some (codes "false")) → IsFoundFlag (codes "live") (rows_for uses ++ rest) (is_live uses)
found-live [] rest none = none refl
found-live (number Pages word n e ∷ uses) rest none = found-live uses rest none
found-live (number Patience word n e ∷ uses) rest none = found-live uses rest none
found-live (number FormatNumber word n e ∷ uses) rest none = found-live uses rest none
found-live (number Seats word n e ∷ uses) rest none = found-live uses rest none
found-live (live ∷ uses) rest none = refl

no-number : (key : Key) (b : Bool) → one_of (name_of key) (live_default b) ≡ None
no-number Pages true = refl
no-number Pages false = refl
no-number Patience true = refl
no-number Patience false = refl
no-number FormatNumber true = refl
no-number FormatNumber false = refl
no-number Seats true = refl
no-number Seats false = refl

not-live : (b : Bool) → b ≡ false → one_of (codes "live") (live_default b) ≡ Some (codes "false")
not-live true e = absurd (cc)
not-live false e = refl

-- what stands at the end of a walk is found as the options that were used
pub options-found : (now : List Use) → FindsOptions (rows_at_end now) (options_for now)
options-found now =
    subst (λ (rows : List Row). FindsOptions rows (options_for now)) (sym (at-end now))
    (record {
      pages = found-number Pages now (live_default (is_live now)) (no-number Pages (is_live now));
      patience = found-number Patience now (live_default (is_live now)) (no-number Patience (is_live now));
      format = found-number FormatNumber now (live_default (is_live now)) (no-number FormatNumber (is_live now));
      seats = found-number Seats now (live_default (is_live now)) (no-number Seats (is_live now));
      live = found-live now (live_default (is_live now)) (not-live (is_live now));
    })
