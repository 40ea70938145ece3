-- What the journal and all traces bear out.
use Rattle.std.proofs.Common.{◌≡◌, ◌↔◌, ℕ, suc, ◌+◌, ◌<◌, ◌≤◌, nat_le, inl, inr, Bool, true, false, ◌&&◌, List, [], ◌∷◌, ◌++◌, map, Option, Some, length, ap, ◌∙◌, refl, sym, subst, arith}
use Rattle.std.proofs.lemmas.Bool.{false≢true}
use Rattle.std.proofs.lemmas.Bool.Decides.{leb_tells}
use Rattle.std.proofs.lemmas.List.{length-append, length-map}
use Rattle.std.proofs.lemmas.List.Elements.{All-nil, All-push, filter_map-append}
use Rattle.std.specs.Prelude.{All, Contains, IfSome, slice_get}
use Rattle.pgn_base.specs.declared.answers.Tag.{Tag}
use Rattle.pgn_base.specs.declared.answers.Warning.{Warning}
use Rattle.pgn_base.specs.declared.note.Note.{Note}
use Rattle.pgn_base.specs.declared.note.Delivery.{Delivery}
use Rattle.pgn_base.specs.declared.queue_answers.Full.{Full}
use Rattle.pgn_base.specs.declared.queue_answers.Usage.{Usage}
use Rattle.pgn_journal.specs.declared.tx.Tx.{Tx}
use Rattle.pgn_journal.specs.Journal.{next_xid, xids_of}
use Rattle.pgn_language.specs.declared.scenario.Section.{Section}
use Rattle.pgn_model.specs.declared.item.Item.{Item}
use Rattle.pgn_model.specs.declared.trace.Trace.{Trace}
use Rattle.pgn_model.specs.Walk.{Awaiting, Owed, Settings, State}
use Rattle.pgn_language.specs.declared.scenario.ScriptLine.{ScriptLine}
use Rattle.pgn_model.specs.declared.item.Item.TheVariants as item
use Rattle.pgn_model.specs.Legal.{IsFullThere, IsShownWithin, finished_xid, finished_xids}
use Rattle.pgn_model.specs.Text.{channel_line, delivery_line, item_lines}
use Rattle.pgn_walk.specs.Evidence.{finished_count}
use Rattle.pgn_reading.specs.Blame.{IsBorneOut, IsNextOwn}
use Rattle.pgn_reading.specs.Shown.{ShowsMark, found_shown, named_shown, raised_in}

both : (a b : Bool) → (a && b) ≡ true → (a ≡ true) × (b ≡ true)
both true true h = (refl, refl)
both true false h = absurd (let no : ⊥ = cc in no)
both false b h = absurd (let no : ⊥ = cc in no)

and_true : (a b : Bool) → a ≡ true → b ≡ true → (a && b) ≡ true
and_true a b p q = ap (λ (t : Bool). t && b) p ∙ q

-- an item is borne out exactly where its four tests pass
pub borne_is : (settings : Settings) (sections : List Section) (journal : List Tx) (traces : List Trace) (s : State) (owed : Owed) (item : Item) (a b c d : Bool) → s.owed ≡ owed
    → (a ≡ true) ↔ IsFullThere settings journal item → (b ≡ true) ↔ All (Contains (raised_in sections traces)) (found_shown owed item) → (c ≡ true) ↔ All (ShowsMark traces) (named_shown item)
    → (d ≡ true) ↔ IsShownWithin (next_xid journal) item → ((a && ((b && (c && d)) && true)) ≡ true) ↔ IsBorneOut settings sections journal traces s item
borne_is settings sections journal traces s owed item a b c d e f g h i = (
  λ t.
      let p = both a ((b && (c && d)) && true) t in
      let q = both (b && (c && d)) true p.1 in
      let r = both b (c && d) q.0 in
      let u = both c d r.1 in
      record {
        full = f.0 p.0;
        found = subst (λ (o : Owed). All (Contains (raised_in sections traces)) (found_shown o item)) (sym e) (g.0 r.0);
        holder = h.0 u.0;
        within = i.0 u.1;
      },
  λ t.
      and_true a ((b && (c && d)) && true) (f.1 t.full)
      (and_true (b && (c && d)) true
      (and_true b (c && d) (g.1 (subst (λ (o : Owed). All (Contains (raised_in sections traces)) (found_shown o item)) e t.found)) (and_true c d (h.1 t.holder) (i.1 t.within))) refl),
)

-- so it is of one pair where it is of each of a list of one
pub all_one : (P : ℕ × ℕ → Type 0) (pair : ℕ × ℕ) (b : Bool) → (b ≡ true) ↔ P pair → (b ≡ true) ↔ All P (pair ∷ [])
all_one P pair b h = (λ t. All-push P [] pair (All-nil P) (h.0 t), λ all. h.1 (all 0 pair (omega arith)))

-- a number is within a number exactly where the comparison says so
pub within_one : (n x g : ℕ) → g ≡ x → (nat_le g n ≡ true) ↔ (x ≤ n)
within_one n x g is = elim (leb_tells g n) [
  | inl h ↦ (λ e. omega (arith, is, h.1), λ le. h.0)
  | inr h ↦ (λ e. absurd (false≢true (sym h.0 ∙ e)), λ le. absurd (let no : ⊥ = omega (arith, is, le, h.1) in no))
]

-- two are where the first is and the second is
pub within_second : (n x y g h : ℕ) → g ≡ x → h ≡ y → g ≤ n → (nat_le h n ≡ true) ↔ ((x ≤ n) × (y ≤ n))
within_second n x y g h is there low = (λ e. (omega (arith, is, low), (within_one n y h there).0 e), λ both. (within_one n y h there).1 both.1)

-- and are not where the first is not
pub within_first : (n x y g : ℕ) → g ≡ x → n < g → (nat_le g n ≡ true) ↔ ((x ≤ n) × (y ≤ n))
within_first n x y g is high = (
  λ e. let low : x ≤ n = (within_one n x g is).0 e in absurd (let no : ⊥ = omega (arith, is, high, low) in no),
  λ both. (within_one n x g is).1 both.0,
)

-- an item that shows no number
pub within_none : (n : ℕ) (i : Item) → ((base point : ℕ) → i ≡ item.Enlist base point → ⊥) → ((xid : ℕ) (notes : List Note) → i ≡ item.Publish xid notes → ⊥)
    → ((full : Full) (notes : List Note) → i ≡ item.QueueFull full notes → ⊥) → ((usage : Usage) → i ≡ item.Used usage → ⊥) → ((value : ℕ) → i ≡ item.Raise value → ⊥) → ((value : ℕ) → i ≡ item.Found value → ⊥)
    → ((from to : ℕ) (got : List Delivery) → i ≡ item.Read from to got → ⊥) → (true ≡ true) ↔ IsShownWithin n i
within_none n (item.Enlist base point) a b c d e f g = absurd (a base point refl)
within_none n (item.Publish xid notes) a b c d e f g = absurd (b xid notes refl)
within_none n (item.QueueFull full notes) a b c d e f g = absurd (c full notes refl)
within_none n (item.Used usage) a b c d e f g = absurd (d usage refl)
within_none n (item.Raise value) a b c d e f g = absurd (e value refl)
within_none n (item.Found value) a b c d e f g = absurd (f value refl)
within_none n (item.Read from to got) a b c d e f g = absurd (g from to got refl)
within_none n i a b c d e f g = (λ _. tt, λ _. refl)

-- an item that finds no flag
pub found_none : (raised : List (ℕ × ℕ)) (flag : ℕ) (i : Item) → ((value : ℕ) → i ≡ item.Found value → ⊥) → (true ≡ true) ↔ All (Contains raised) (found_shown (Awaiting flag) i)
found_none raised flag (item.Found value) a = absurd (a value refl)
found_none raised flag i a = (λ _. All-nil (Contains raised), λ _. refl)

-- an item that names no holder
pub named_none : (traces : List Trace) (i : Item) → ((full : Full) (notes : List Note) → i ≡ item.QueueFull full notes → ⊥) → ((usage : Usage) → i ≡ item.Used usage → ⊥) → (true ≡ true) ↔ All (ShowsMark traces) (named_shown i)
named_none traces (item.QueueFull full notes) a b = absurd (a full notes refl)
named_none traces (item.Used usage) a b = absurd (b usage refl)
named_none traces i a b = (λ _. All-nil (ShowsMark traces), λ _. refl)

-- an item that shows no full queue
pub full_none : (settings : Settings) (journal : List Tx) (i : Item) → ((full : Full) (notes : List Note) → i ≡ item.QueueFull full notes → ⊥) → (true ≡ true) ↔ IsFullThere settings journal i
full_none settings journal (item.QueueFull full notes) other = absurd (other full notes refl)
full_none settings journal i other = (λ _. tt, λ _. refl)

-- the number of the transaction that an item shows as finished is the session's next
pub next_own : (section : Section) (journal : List Tx) (before : List Item) (i : Item) (session own x : ℕ) (b : Bool) → section.no ≡ session → own ≡ length (finished_xids before) → finished_xid i ≡ Some x
    → (b ≡ true) ↔ (slice_get (xids_of session journal) own ≡ Some x) → (b ≡ true) ↔ IsNextOwn section journal before i
next_own section journal before i session own x b e f is h =
    subst (λ (o : Option ℕ). (b ≡ true) ↔ IfSome o (λ y. slice_get (xids_of section.no journal) (length (finished_xids before)) ≡ Some y)) (sym is)
    (subst (λ (s : ℕ). (b ≡ true) ↔ (slice_get (xids_of s journal) (length (finished_xids before)) ≡ Some x)) (sym e)
    (subst (λ (n : ℕ). (b ≡ true) ↔ (slice_get (xids_of session journal) n ≡ Some x)) f h))

-- an item that shows none as finished
pub next_none : (section : Section) (journal : List Tx) (before : List Item) (i : Item) → ((x : ℕ) (notes : List Note) → i ≡ item.Publish x notes → ⊥) → ((full : Full) (notes : List Note) → i ≡ item.QueueFull full notes → ⊥)
    → (true ≡ true) ↔ IsNextOwn section journal before i
next_none section journal before (item.Publish x notes) p q = absurd (p x notes refl)
next_none section journal before (item.QueueFull full notes) p q = absurd (q full notes refl)
next_none section journal before i p q = (λ _. tt, λ _. refl)

-- How many lines an item has.

-- that of rows has one for each channel
pub lines_channels : (lines : List ScriptLine) (i : Item) (names these : List (List ℕ)) → i ≡ item.Channels names → these ≡ names → length (item_lines lines i) ≡ length these
lines_channels lines i names these is same = ap (λ (x : Item). length (item_lines lines x)) is ∙ length-map names channel_line ∙ sym (ap (λ (them : List (List ℕ)). length them) same)

-- a read has one for each delivery, and its own
pub lines_read : (lines : List ScriptLine) (i : Item) (from to : ℕ) (got these : List Delivery) → i ≡ item.Read from to got → these ≡ got → length (item_lines lines i) ≡ length these + 1
lines_read lines i from to got these is same =
    let all : length (map delivery_line got) ≡ length these = length-map got delivery_line ∙ sym (ap (λ (them : List Delivery). length them) same) in
    ap (λ (x : Item). length (item_lines lines x)) is ∙ (let one : suc (length (map delivery_line got)) ≡ length these + 1 = omega (arith, all) in one)

-- one, where it has no more than one
pub lines_one : (lines : List ScriptLine) (i : Item) → ((tag : Tag) (warning : Option Warning) → i ≡ item.Reply tag warning → ⊥) → ((names : List (List ℕ)) → i ≡ item.Channels names → ⊥) → ((usage : Usage) → i ≡ item.Used usage → ⊥)
    → ((from to : ℕ) (got : List Delivery) → i ≡ item.Read from to got → ⊥) → length (item_lines lines i) ≡ 1
lines_one lines (item.Reply tag warning) a b c d = absurd (a tag warning refl)
lines_one lines (item.Channels names) a b c d = absurd (b names refl)
lines_one lines (item.Used usage) a b c d = absurd (c usage refl)
lines_one lines (item.Read from to got) a b c d = absurd (d from to got refl)
lines_one lines i a b c d = refl

-- How many transactions an item shows.

one_count : (i : Item) → length (finished_xids (i ∷ [])) ≡ finished_count i
one_count (item.Publish xid notes) = refl
one_count (item.QueueFull full notes) = refl
one_count other = refl

-- the numbers that are finished after one item more
pub counts_more : (before : List Item) (i : Item) → length (finished_xids (before ++ i ∷ [])) ≡ length (finished_xids before) + finished_count i
counts_more before i = ap length (filter_map-append finished_xid before (i ∷ [])) ∙ length-append (finished_xids before) (finished_xids (i ∷ [])) ∙ ap (λ (n : ℕ). length (finished_xids before) + n) (one_count i)

-- an item finishes no more numbers than it has lines
pub counts_within : (lines : List ScriptLine) (i : Item) → finished_count i ≤ length (item_lines lines i)
counts_within lines (item.Publish xid notes) = omega arith
counts_within lines (item.QueueFull full notes) = omega arith
counts_within lines other = omega arith
