-- What `clap` makes of the words of `drill` is what they give.
use Rattle.std.proofs.Common.{◌≡◌, ◌∙◌, ℕ, ◌==◌, Bool, true, false, cond, List, [], ◌∷◌, Option, Some, None, refl, sym, ap, subst, codes, arith}
use Rattle.std.specs.Prelude.{slice_get}
use Rattle.std.specs.Str.{bytes_eq, chars}
use Rattle.clap.specs.Kinds.{Kinds, or_else}
use Rattle.clap.specs.Faults.{check_fault, default_fault, defaults_fault, flags_fault, settle_fault, step_fault, turn_fault, word_fault}
use Rattle.clap.specs.Walk.{Held, Row, Rule, Step, Text, Walk, after_step, bundle_met, finished, has_row, idle, nothing_held, settled, value, walk_from, walked, with_default, word_met}
use Rattle.clap.specs.Simple.{Shape, new_rule, new_shape}
use Rattle.clap.specs.declared.builder.action.ArgAction.TheVariants.{Set}
use Rattle.clap.specs.declared.builder.value_parser.Reading.TheVariants.{AsWritten}
use Rattle.clap.specs.declared.builder.value_parser.ValueParser.TheVariants.{Unsigned}
use Rattle.clap.specs.declared.parser.matches.ValueSource.TheVariants.{CommandLine}
use Rattle.clap.specs.declared.error.kind.ErrorKind.TheVariants.{UnknownArgument}
use Rattle.pgn_options.specs.declared.asked.Asked.{Asked}
use Rattle.pgn_options.specs.declared.asked.Asked.TheVariants.{Run, Drill, Wire, Check, Serve}
use Rattle.pgn_options.specs.Words.{drill_of, drill_with, number_in, without_dashes}
use Rattle.pgn_options.proofs.NumberLaws.{either, hyphen, passed, refused}
use Rattle.pgn_options.proofs.TotalLaws.{Agrees, agrees-step, both-none, ending, found, or-first, or-second, total, total-nil, wrong-step}
use Rattle.pgn_options.proofs.FormLaws.{Form, dashes, form, long, plain, short}

-- The three words, each with its range.
pub data Place : Type 0 where
  Seed : Place
  Sessions : Place
  Notes : Place

abbrev least_of : Place → ℕ
least_of Seed = 0
least_of Sessions = 1
least_of Notes = 1

abbrev most_of : Place → ℕ
most_of Seed = 18446744073709551615
most_of Sessions = 32
most_of Notes = 1000

abbrev name_of : Place → Text
name_of Seed = codes "seed"
name_of Sessions = codes "sessions"
name_of Notes = codes "notes"

abbrev index_of : Place → ℕ
index_of Seed = 1
index_of Sessions = 2
index_of Notes = 3

abbrev number_of : Place → Text → Option ℕ
number_of place word = number_in (least_of place) (most_of place) word

-- a word as it is built
abbrev rule : Place → Rule
rule place = record (new_rule (name_of place)) {
  index = Some (index_of place);
  action = Some Set;
  parser = Some (Unsigned (least_of place) (most_of place));
  range = Some (record { start_inclusive = 1; end_inclusive = 1 });
  required = true;
}

abbrev rules : List Rule
rules = rule Seed ∷ rule Sessions ∷ rule Notes ∷ []

-- `drill` as it is built
abbrev pub drill_built : Shape
drill_built = record (new_shape (codes "drill")) {
  rules = rules;
  no_binary_name = true;
  disable_help_flag = true;
  disable_help_subcommand = true;
  is_built = true;
}

abbrev row : Place → Text → Row
row place word = record { id = name_of place; values = word ∷ []; count = None; source = Some CommandLine; reading = AsWritten }

-- what is found of a drill
abbrev pub IsDrill : Asked → List Row → Type 0
IsDrill (Run pages patience format live) rows = ⊥
IsDrill (Check pages patience format) rows = ⊥
IsDrill (Serve seats) rows = ⊥
IsDrill (Drill seed sessions notes) rows =
    (a : Text) × (b : Text) × (c : Text) × (rows ≡ row Seed a ∷ row Sessions b ∷ row Notes c ∷ [])
    × (number_of Seed a ≡ Some seed) × (number_of Sessions b ≡ Some sessions) × (number_of Notes c ≡ Some notes)
IsDrill Wire rows = ⊥

-- the words that stand in their places, the last of which is not tested yet
data Placed : Type 0 where
  p0 : Placed
  p1 : (a : Text) → Placed
  p2 : (a : Text) (n : ℕ) → number_of Seed a ≡ Some n → (b : Text) → Placed
  p3 : (a : Text) (n : ℕ) → number_of Seed a ≡ Some n → (b : Text) (m : ℕ) → number_of Sessions b ≡ Some m → (c : Text) → Placed

abbrev held : List Row → Option (Text × List Text) → Held
held rows pending = record { rows = rows; pending = pending; skip = 0 }

abbrev held_at : Placed → Held
held_at p0 = held [] None
held_at (p1 a) = held [] (Some (codes "seed", a ∷ []))
held_at (p2 a n e b) = held (row Seed a ∷ []) (Some (codes "sessions", b ∷ []))
held_at (p3 a n e b m d c) = held (row Seed a ∷ row Sessions b ∷ []) (Some (codes "notes", c ∷ []))

abbrev position_at : Placed → ℕ
position_at p0 = 1
position_at (p1 a) = 2
position_at (p2 a n e b) = 3
position_at (p3 a n e b m d c) = 4

abbrev at : Placed → Bool → Walk
at p trailing = record { held = held_at p; waiting = idle; position = position_at p; is_trailing = trailing; stopped = None }

-- what the words in their places and more words ask for
abbrev with_more : Placed → List Text → Option Asked
with_more p0 words = drill_of words
with_more (p1 a) words = drill_of (a ∷ words)
with_more (p2 a n e b) words = drill_of (a ∷ b ∷ words)
with_more (p3 a n e b m d c) words = drill_of (a ∷ b ∷ c ∷ words)

-- the words that are left to be placed: behind `--` all of them
abbrev left : Bool → List Text → List Text
left true words = words
left false words = without_dashes words

-- Words that are no numbers.

first-wrong : (a : Text) (words : List Text) → number_of Seed a ≡ None → drill_of (a ∷ words) ≡ None
first-wrong a [] e = refl
first-wrong a (b ∷ []) e = refl
first-wrong a (b ∷ c ∷ []) e = ap (λ (o : Option ℕ). drill_with o (number_of Sessions b) (number_of Notes c)) e
first-wrong a (b ∷ c ∷ d ∷ words) e = refl

no-second : (o p : Option ℕ) → drill_with o None p ≡ None
no-second None p = refl
no-second (Some n) p = refl

second-wrong : (a b : Text) (words : List Text) → number_of Sessions b ≡ None → drill_of (a ∷ b ∷ words) ≡ None
second-wrong a b [] e = refl
second-wrong a b (c ∷ []) e = ap (λ (o : Option ℕ). drill_with (number_of Seed a) o (number_of Notes c)) e ∙ no-second (number_of Seed a) (number_of Notes c)
second-wrong a b (c ∷ d ∷ words) e = refl

no-third : (o p : Option ℕ) → drill_with o p None ≡ None
no-third None p = refl
no-third (Some n) None = refl
no-third (Some n) (Some m) = refl

third-wrong : (a b c : Text) (words : List Text) → number_of Notes c ≡ None → drill_of (a ∷ b ∷ c ∷ words) ≡ None
third-wrong a b c [] e = ap (λ (o : Option ℕ). drill_with (number_of Seed a) (number_of Sessions b) o) e ∙ no-third (number_of Seed a) (number_of Sessions b)
third-wrong a b c (d ∷ words) e = refl

hyphen-wrong : (p : Placed) (bytes : Text) (words : List Text) → with_more p ((45 ∷ bytes) ∷ words) ≡ None
hyphen-wrong p0 bytes words = first-wrong (45 ∷ bytes) words (hyphen 0 18446744073709551615 bytes)
hyphen-wrong (p1 a) bytes words = second-wrong a (45 ∷ bytes) words (hyphen 1 32 bytes)
hyphen-wrong (p2 a n e b) bytes words = third-wrong a b (45 ∷ bytes) words (hyphen 1 1000 bytes)
hyphen-wrong (p3 a n e b m d c) bytes words = refl

-- nothing is asked for, and something is wrong
nothing : (o : Option Asked) (kinds : Kinds) (rows : List Row) → o ≡ None → (kinds ≡ [] → ⊥) → Agrees IsDrill o kinds rows
nothing o kinds rows e wrong = subst (λ (x : Option Asked). Agrees IsDrill x kinds rows) (sym e) wrong

-- The end of the words.

default-none : (place : Place) (rows : List Row) → default_fault rows (rule place) ≡ []
default-none place rows = either (has_row (name_of place) rows) _ _

defaults-none : (rows : List Row) → defaults_fault rows rules ≡ []
unfolding defaults_fault
defaults-none rows =
    let first = ap (λ (k : Kinds). or_else k (or_else (default_fault (with_default rows (rule Seed)) (rule Sessions)) (or_else (default_fault (with_default (with_default rows (rule Seed)) (rule Sessions)) (rule Notes)) []))) (default-none Seed rows) in
    first ∙ both-none _ _ (default-none Sessions (with_default rows (rule Seed))) (default-none Notes (with_default (with_default rows (rule Seed)) (rule Sessions)))

end-check : (h : Held) → ending drill_built h ≡ [] → check_fault drill_built (finished rules h) false ≡ []
end-check h e = or-second (defaults_fault (settled rules h).rows rules) _ (or-second (settle_fault rules false h) _ e)

drill-end : (p : Placed) (t : Bool) → Agrees IsDrill (with_more p []) (total drill_built (at p t) []) (found drill_built (at p t) [])
drill-end p0 t = λ is. let missing = end-check (held_at p0) (sym (total-nil drill_built (at p0 t)) ∙ is) in cc
drill-end (p1 a) t = λ is. let missing = end-check (held_at (p1 a)) (sym (total-nil drill_built (at (p1 a) t)) ∙ is) in cc
drill-end (p2 a n e b) t = λ is. let missing = end-check (held_at (p2 a n e b)) (sym (total-nil drill_built (at (p2 a n e b) t)) ∙ is) in cc
drill-end (p3 a n e b m d c) t =
    subst (λ (o : Option Asked). Agrees IsDrill o (total drill_built (at (p3 a n e b m d c) t) []) (found drill_built (at (p3 a n e b m d c) t) []))
    (sym numbers) (go (number_of Notes c) refl)
  where
    numbers : drill_of (a ∷ b ∷ c ∷ []) ≡ drill_with (Some n) (Some m) (number_of Notes c)
    numbers = ap (λ (o : Option ℕ). drill_with o (number_of Sessions b) (number_of Notes c)) e ∙ ap (λ (o : Option ℕ). drill_with (Some n) o (number_of Notes c)) d

    h : Held
    h = held (row Seed a ∷ row Sessions b ∷ []) (Some (codes "notes", c ∷ []))

    go : (o : Option ℕ) → number_of Notes c ≡ o
        → Agrees IsDrill (drill_with (Some n) (Some m) o) (total drill_built (at (p3 a n e b m d c) t) []) (found drill_built (at (p3 a n e b m d c) t) [])
    go None x = λ is. refused 1 1000 c _ (omega arith) refl x (or-first _ _ (sym (total-nil drill_built (at (p3 a n e b m d c) t)) ∙ is))
    go (Some k) x = (
      total-nil drill_built (at (p3 a n e b m d c) t)
          ∙ ap (λ (kinds : Kinds). or_else kinds (or_else (defaults_fault (settled rules (held_at (p3 a n e b m d c))).rows rules) [])) (passed 1 1000 c k _ (omega arith) refl x)
          ∙ ap (λ (kinds : Kinds). or_else kinds []) (defaults-none (settled rules (held_at (p3 a n e b m d c))).rows),
      (a, b, c, refl, e, d, x),
    )

-- A word that goes to the next place.

record IsValue (p : Placed) (t : Bool) (w : Text) : Type 0 where
  pub fine : word_fault drill_built [] t idle w (held_at p) ≡ []
  pub met : word_met rules [] t idle (position_at p) w (held_at p) ≡ (held_at p, value)

value-turn : (p : Placed) (t : Bool) (w : Text) → IsValue p t w → turn_fault drill_built [] (at p t) w ≡ step_fault drill_built (position_at p) (held_at p) value
value-turn p t w h =
    ap (λ (k : Kinds). or_else k (step_fault drill_built (position_at p) (word_met rules [] t idle (position_at p) w (held_at p)).0 (word_met rules [] t idle (position_at p) w (held_at p)).1)) h.fine
    ∙ ap (λ (m : Held × Step). step_fault drill_built (position_at p) m.0 m.1) h.met

-- the walk over the words goes on behind a value
value-walk : (p : Placed) (t : Bool) (w : Text) → IsValue p t w → walked rules [] (at p t) w ≡ after_step rules w (at p t) (held_at p) value
unfolding walked
value-walk p t w h = ap (λ (m : Held × Step). after_step rules w (at p t) m.0 m.1) h.met

-- what is to be shown of the words that are left, from each place on
abbrev Claim : Bool → List Text → Type 0
Claim t words = (p : Placed) → Agrees IsDrill (with_more p (left t words)) (total drill_built (at p t) words) (found drill_built (at p t) words)

-- a word that is a value goes to the place that is next
place : (t : Bool) (w : Text) (words : List Text) → Claim t words → (p : Placed) → IsValue p t w
    → Agrees IsDrill (with_more p (w ∷ left t words)) (total drill_built (at p t) (w ∷ words)) (found drill_built (at p t) (w ∷ words))
place t w words claim p0 h =
    agrees-step IsDrill drill_built (at p0 t) (at (p1 w) t) w words (drill_of (w ∷ left t words)) (value-turn p0 t w h) (value-walk p0 t w h ∙ comes t) (claim (p1 w))
  where
    comes : (b : Bool) → after_step rules w (at p0 b) (held_at p0) value ≡ at (p1 w) b
    comes true = refl
    comes false = refl
place t w words claim (p1 a) h = go (number_of Seed a) refl
  where
    go : (o : Option ℕ) → number_of Seed a ≡ o
        → Agrees IsDrill (with_more (p1 a) (w ∷ left t words)) (total drill_built (at (p1 a) t) (w ∷ words)) (found drill_built (at (p1 a) t) (w ∷ words))
    go None x =
        nothing _ _ _ (first-wrong a (w ∷ left t words) x)
        (wrong-step IsDrill drill_built (at (p1 a) t) (at (p1 a) t) w words (λ e. refused 0 18446744073709551615 a _ (omega arith) refl x (sym (value-turn (p1 a) t w h) ∙ e)))
    go (Some n) x =
        agrees-step IsDrill drill_built (at (p1 a) t) (at (p2 a n x w) t) w words (drill_of (a ∷ w ∷ left t words))
        (value-turn (p1 a) t w h ∙ passed 0 18446744073709551615 a n _ (omega arith) refl x) (value-walk (p1 a) t w h ∙ comes t) (claim (p2 a n x w))
      where
        comes : (b : Bool) → after_step rules w (at (p1 a) b) (held_at (p1 a)) value ≡ at (p2 a n x w) b
        comes true = refl
        comes false = refl
place t w words claim (p2 a n e b) h = go (number_of Sessions b) refl
  where
    go : (o : Option ℕ) → number_of Sessions b ≡ o
        → Agrees IsDrill (with_more (p2 a n e b) (w ∷ left t words)) (total drill_built (at (p2 a n e b) t) (w ∷ words)) (found drill_built (at (p2 a n e b) t) (w ∷ words))
    go None x =
        nothing _ _ _ (second-wrong a b (w ∷ left t words) x)
        (wrong-step IsDrill drill_built (at (p2 a n e b) t) (at (p2 a n e b) t) w words (λ is. refused 1 32 b _ (omega arith) refl x (sym (value-turn (p2 a n e b) t w h) ∙ is)))
    go (Some m) x =
        agrees-step IsDrill drill_built (at (p2 a n e b) t) (at (p3 a n e b m x w) t) w words (drill_of (a ∷ b ∷ w ∷ left t words))
        (value-turn (p2 a n e b) t w h ∙ passed 1 32 b m _ (omega arith) refl x) (value-walk (p2 a n e b) t w h ∙ comes t) (claim (p3 a n e b m x w))
      where
        comes : (y : Bool) → after_step rules w (at (p2 a n e b) y) (held_at (p2 a n e b)) value ≡ at (p3 a n e b m x w) y
        comes true = refl
        comes false = refl
place t w words claim (p3 a n e b m d c) h =
    wrong-step IsDrill drill_built (at (p3 a n e b m d c) t) (at (p3 a n e b m d c) t) w words (λ is. let bad : UnknownArgument ∷ [] ≡ [] = sym (value-turn (p3 a n e b m d c) t w h) ∙ is in cc)

-- The words, one after another.

behind-dashes : (words : List Text) → Claim true words
behind-dashes [] p = drill-end p true
behind-dashes (w ∷ words) p = place true w words (behind-dashes words) p (record { fine = refl; met = refl })

-- a flag is no word of the drill
flag-wrong : (p : Placed) (w : Text) (words : List Text) (bytes : Text) → w ≡ 45 ∷ bytes → bytes_eq w (codes "--") ≡ false
    → (turn_fault drill_built [] (at p false) w ≡ [] → ⊥)
    → Agrees IsDrill (with_more p (left false (w ∷ words))) (total drill_built (at p false) (w ∷ words)) (found drill_built (at p false) (w ∷ words))
flag-wrong p w words bytes is apart wrong =
    nothing _ _ _
    (ap (λ (b : Bool). with_more p (cond b words (w ∷ without_dashes words))) apart ∙ ap (λ (x : Text). with_more p (x ∷ without_dashes words)) is ∙ hyphen-wrong p bytes (without_dashes words))
    (wrong-step IsDrill drill_built (at p false) (at p false) w words wrong)

-- a word that is not `--`, and goes to the next place
plain-word : (p : Placed) (w : Text) (words : List Text) → Claim false words → bytes_eq w (codes "--") ≡ false → IsValue p false w
    → Agrees IsDrill (with_more p (left false (w ∷ words))) (total drill_built (at p false) (w ∷ words)) (found drill_built (at p false) (w ∷ words))
plain-word p w words claim apart h =
    subst (λ (b : Bool). Agrees IsDrill (with_more p (cond b words (w ∷ without_dashes words))) (total drill_built (at p false) (w ∷ words)) (found drill_built (at p false) (w ∷ words)))
    (sym apart) (place false w words claim p h)

short-word : (p : Placed) (y : ℕ) (ys : Text) (words : List Text) → Claim false words → (y == 45) ≡ false
    → Agrees IsDrill (with_more p (left false ((45 ∷ y ∷ ys) ∷ words))) (total drill_built (at p false) ((45 ∷ y ∷ ys) ∷ words)) (found drill_built (at p false) ((45 ∷ y ∷ ys) ∷ words))
unfolding flags_fault bundle_met
short-word p y ys words claim differs = go (slice_get (chars (y ∷ ys)) 0) refl
  where
    apart : bytes_eq (45 ∷ y ∷ ys) (codes "--") ≡ false
    apart = rw differs refl

    no_flag : (q : Placed) → slice_get (chars (y ∷ ys)) 0 ≡ None → IsValue q false (45 ∷ y ∷ ys)
    no_flag p0 c = record { fine = rw (differs, differs, c) refl; met = rw (differs, differs, c) refl }
    no_flag (p1 a) c = record { fine = rw (differs, differs, c) refl; met = rw (differs, differs, c) refl }
    no_flag (p2 a n e b) c = record { fine = rw (differs, differs, c) refl; met = rw (differs, differs, c) refl }
    no_flag (p3 a n e b m d x) c = record { fine = rw (differs, differs, c) refl; met = rw (differs, differs, c) refl }

    flag : (q : Placed) (x : ℕ) → slice_get (chars (y ∷ ys)) 0 ≡ Some x → word_fault drill_built [] false idle (45 ∷ y ∷ ys) (held_at q) ≡ UnknownArgument ∷ []
    flag p0 x c = rw (differs, differs, c) refl
    flag (p1 a) x c = rw (differs, differs, c) refl
    flag (p2 a n e b) x c = rw (differs, differs, c) refl
    flag (p3 a n e b m d z) x c = rw (differs, differs, c) refl

    go : (o : Option ℕ) → slice_get (chars (y ∷ ys)) 0 ≡ o
        → Agrees IsDrill (with_more p (left false ((45 ∷ y ∷ ys) ∷ words))) (total drill_built (at p false) ((45 ∷ y ∷ ys) ∷ words)) (found drill_built (at p false) ((45 ∷ y ∷ ys) ∷ words))
    go None c = plain-word p (45 ∷ y ∷ ys) words claim apart (no_flag p c)
    go (Some x) c = flag-wrong p (45 ∷ y ∷ ys) words (y ∷ ys) refl apart (λ e. let bad : UnknownArgument ∷ [] ≡ [] = sym (flag p x c) ∙ or-first _ _ e in cc)

to-trailing : (p : Placed) → walked rules [] (at p false) (45 ∷ 45 ∷ []) ≡ at p true
unfolding walked
to-trailing p = refl

drill-word : (w : Text) (words : List Text) → Form w → Claim false words → (p : Placed)
    → Agrees IsDrill (with_more p (left false (w ∷ words))) (total drill_built (at p false) (w ∷ words)) (found drill_built (at p false) (w ∷ words))
drill-word _ words (plain w apart s) claim p =
    plain-word p w words claim apart.not_dashes
    (record { fine = rw (apart.not_dashes, apart.no_long, s) refl; met = rw (apart.not_dashes, apart.no_long, s) refl })
drill-word _ words (short y ys differs) claim p = short-word p y ys words claim differs
drill-word _ words dashes claim p =
    agrees-step IsDrill drill_built (at p false) (at p true) (45 ∷ 45 ∷ []) words (with_more p words) refl (to-trailing p) (behind-dashes words p)
drill-word _ words (long z zs) claim p =
    flag-wrong p (45 ∷ 45 ∷ z ∷ zs) words (45 ∷ z ∷ zs) refl refl (λ e. let bad : UnknownArgument ∷ [] ≡ [] = e in cc)

drill-words : (words : List Text) → Claim false words
drill-words [] p = drill-end p false
drill-words (w ∷ words) p = drill-word w words (form w) (drill-words words) p

-- what `clap` makes of the words of `drill`
pub drill-agrees : (words : List Text)
    → Agrees IsDrill (drill_of (without_dashes words)) (total drill_built (walk_from nothing_held) words) (found drill_built (walk_from nothing_held) words)
drill-agrees words = drill-words words p0
