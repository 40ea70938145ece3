-- What all traces show.
use Rattle.std.proofs.Common.{◌≡◌, ◌↔◌, ℕ, zero, suc, ◌+◌, ◌<◌, ◌≤◌, Bool, true, false, List, [], ◌∷◌, ◌++◌, map, drop, length, get_or, Option, None, Some, sym, ap, ◌∙◌, refl, subst, inl, inr, arith}
use Rattle.std.specs.Prelude.{Contains, flat_map, slice_get}
use Rattle.std.proofs.lemmas.Bool.{false≢true}
use Rattle.std.proofs.lemmas.List.{at_drop_more, drop_all, drop_more}
use Rattle.std.proofs.lemmas.List.Elements.{Contains-append_cases, Contains-append_left, Contains-append_right}
use Rattle.pgn_language.specs.declared.scenario.ScriptLine.{ScriptLine}
use Rattle.pgn_language.specs.declared.scenario.Section.{Section}
use Rattle.pgn_model.specs.declared.item.Item.{Item}
use Rattle.pgn_model.specs.declared.item.Item.TheVariants as item
use Rattle.pgn_base.specs.declared.note.Delivery.{Delivery}
use Rattle.pgn_model.specs.declared.trace.Trace.{Trace}
use Rattle.pgn_reading.specs.Shown.{ShowsMark, lines_behind, marks_shown, next_flag, raised_from, raised_in}
use Rattle.pgn_walk.specs.Evidence.{begins_line, flag_of_line, raised_by, stood_by, stood_in}
use Rattle.pgn_walk.specs.Pairs.{Gathers}
use Rattle.pgn_walk.proofs.PairLaws.{gathers_both}

-- Marks.

with_session : (s : ℕ) (ms : List ℕ) (pair : ℕ × ℕ) → Contains (map (λ m. (s, m)) ms) pair → (s ≡ pair.0) × Contains ms pair.1
with_session s [] pair (k, lt, is) = absurd (omega (arith, lt))
with_session s (m ∷ ms) pair (zero, lt, is) = (ap (λ (p : ℕ × ℕ). p.0) is, (0, omega arith, ap (λ (p : ℕ × ℕ). p.1) is))
with_session s (m ∷ ms) pair (suc k, lt, is) = let r = with_session s ms pair (k, omega (arith, lt), is) in (r.0, (suc r.1.0, omega (arith, r.1.1), r.1.2))

of_session : (s : ℕ) (ms : List ℕ) (pair : ℕ × ℕ) → s ≡ pair.0 → Contains ms pair.1 → Contains (map (λ m. (s, m)) ms) pair
of_session s [] pair e (k, lt, is) = absurd (omega (arith, lt))
of_session s (m ∷ ms) pair e (zero, lt, is) = (0, omega arith, ap (λ (n : ℕ). let p : ℕ × ℕ = (n, m) in p) e ∙ ap (λ (n : ℕ). let p : ℕ × ℕ = (pair.0, n) in p) is)
of_session s (m ∷ ms) pair e (suc k, lt, is) = let r = of_session s ms pair e (k, omega (arith, lt), is) in (suc r.0, omega (arith, r.1), r.2)

items_show : (s : ℕ) (items : List Item) (pair : ℕ × ℕ) → Contains (flat_map (stood_by s) items) pair → (s ≡ pair.0) × Contains (flat_map marks_shown items) pair.1
items_show s [] pair (k, lt, is) = absurd (omega (arith, lt))
items_show s (i ∷ items) pair there = elim (Contains-append_cases (stood_by s i) (flat_map (stood_by s) items) pair there) [
  | inl here ↦ let r = with_session s (marks_shown i) pair here in (r.0, Contains-append_left (marks_shown i) (flat_map marks_shown items) pair.1 r.1)
  | inr later ↦ let r = items_show s items pair later in (r.0, Contains-append_right (marks_shown i) (flat_map marks_shown items) pair.1 r.1)
]

show_items : (s : ℕ) (items : List Item) (pair : ℕ × ℕ) → s ≡ pair.0 → Contains (flat_map marks_shown items) pair.1 → Contains (flat_map (stood_by s) items) pair
show_items s [] pair e (k, lt, is) = absurd (omega (arith, lt))
show_items s (i ∷ items) pair e there = elim (Contains-append_cases (marks_shown i) (flat_map marks_shown items) pair.1 there) [
  | inl here ↦ Contains-append_left (stood_by s i) (flat_map (stood_by s) items) pair (of_session s (marks_shown i) pair e here)
  | inr later ↦ Contains-append_right (stood_by s i) (flat_map (stood_by s) items) pair (show_items s items pair e later)
]

stood-shows : (traces : List Trace) (pair : ℕ × ℕ) → Contains (stood_in traces) pair → ShowsMark traces pair
stood-shows [] pair (k, lt, is) = absurd (omega (arith, lt))
stood-shows (trace ∷ traces) pair there = elim (Contains-append_cases (flat_map (stood_by trace.session) trace.items) (stood_in traces) pair there) [
  | inl here ↦ let r = items_show trace.session trace.items pair here in (0, trace, omega arith, refl, (r.0, r.1))
  | inr later ↦ let r = stood-shows traces pair later in (suc r.0, r.1, omega (arith, r.2), r.3, r.4)
]

shows-stood : (traces : List Trace) (pair : ℕ × ℕ) → ShowsMark traces pair → Contains (stood_in traces) pair
shows-stood [] pair (k, trace, lt, is, there) = absurd (omega (arith, lt))
shows-stood (other ∷ traces) pair (zero, trace, lt, is, there) =
    let session : other.session ≡ pair.0 = ap (λ (t : Trace). t.session) is ∙ there.0 in
    let marks : Contains (flat_map marks_shown other.items) pair.1 = subst (λ (ms : List ℕ). Contains ms pair.1) (sym (ap (λ (t : Trace). flat_map marks_shown t.items) is)) there.1 in
    Contains-append_left (flat_map (stood_by other.session) other.items) (stood_in traces) pair (show_items other.session other.items pair session marks)
shows-stood (other ∷ traces) pair (suc k, trace, lt, is, there) =
    Contains-append_right (flat_map (stood_by other.session) other.items) (stood_in traces) pair (shows-stood traces pair (k, trace, omega (arith, lt), is, there))

-- a mark at which some session stood is one that a trace shows
pub stood_shows : (traces : List Trace) (session mark : ℕ) (b : Bool) → (b ≡ true) ↔ Contains (stood_in traces) (session, mark) → (b ≡ true) ↔ ShowsMark traces (session, mark)
stood_shows traces session mark b h = (λ e. stood-shows traces (session, mark) (h.0 e), λ there. h.1 (shows-stood traces (session, mark) there))

-- Flags.

-- one item more
pub raised_line : (flag : Option ℕ) (lines : List ScriptLine) (next : ℕ) (i : Item) (items : List Item) (found : Option ScriptLine) → begins_line i ≡ true → slice_get lines next ≡ found
    → raised_from flag (drop next lines) (i ∷ items) ≡ raised_from (flag_of_line found) (drop (next + 1) lines) items
raised_line flag lines next (item.Line n) items found is e = ap (λ (f : Option ℕ). raised_from f (lines_behind (drop next lines)) items) (there lines next found e) ∙ ap (λ (ls : List ScriptLine). raised_from (flag_of_line found) ls items) (behind lines next)
  where
    there : (ls : List ScriptLine) (k : ℕ) (f : Option ScriptLine) → slice_get ls k ≡ f → next_flag (drop k ls) ≡ flag_of_line f
    there [] zero f e = ap flag_of_line e
    there [] (suc k) f e = ap flag_of_line e
    there (l ∷ ls) zero f e = ap flag_of_line e
    there (l ∷ ls) (suc k) f e = there ls k f e

    behind : (ls : List ScriptLine) (k : ℕ) → lines_behind (drop k ls) ≡ drop (k + 1) ls
    behind ls k = one ls k ∙ ap (λ (n : ℕ). drop n ls) (let e : suc k ≡ k + 1 = omega arith in e)
      where
        one : (ls : List ScriptLine) (k : ℕ) → lines_behind (drop k ls) ≡ drop (suc k) ls
        one [] zero = refl
        one [] (suc k) = refl
        one (l ∷ ls) zero = refl
        one (l ∷ ls) (suc k) = one ls k
raised_line flag lines next other items found is e = absurd (false≢true is)

pub raised_other : (flag : Option ℕ) (lines : List ScriptLine) (i : Item) (items : List Item) → begins_line i ≡ false → raised_from flag lines (i ∷ items) ≡ raised_by flag i ++ raised_from flag lines items
raised_other flag lines (item.Line n) items is = absurd (false≢true (sym is))
raised_other flag lines (item.Raise value) items is = refl
raised_other flag lines other items is = refl

-- What one item puts in.

-- an item that raises a flag is gathered by the flag and its number
pub raises : (old new : List ℕ) (flag : Option ℕ) (i : Item) (f v w : ℕ) → flag ≡ Some f → i ≡ item.Raise v → w ≡ v → Gathers old new ((f, w) ∷ []) → Gathers old new (raised_by flag i)
raises old new flag i f v w e is same h =
    subst (λ (o : Option ℕ). Gathers old new (raised_by o i)) (sym e) (subst (λ (x : Item). Gathers old new (raised_by (Some f) x)) (sym is) (subst (λ (n : ℕ). Gathers old new ((f, n) ∷ [])) same h))

-- a read is gathered by the mark that it comes to
pub stands_one : (old new : List ℕ) (session : ℕ) (i : Item) (from to mark : ℕ) (got : List Delivery) → i ≡ item.Read from to got → mark ≡ to → Gathers old new ((session, mark) ∷ []) → Gathers old new (stood_by session i)
stands_one old new session i from to mark got is same h =
    subst (λ (x : Item). Gathers old new (stood_by session x)) (sym is) (subst (λ (n : ℕ). Gathers old new ((session, n) ∷ [])) same h)

-- an Enlist is gathered by its base and its point
pub stands_two : (old mid new : List ℕ) (session : ℕ) (i : Item) (base point b p : ℕ) → i ≡ item.Enlist base point → b ≡ base → p ≡ point → Gathers old mid ((session, b) ∷ []) → Gathers mid new ((session, p) ∷ []) → Gathers old new (stood_by session i)
stands_two old mid new session i base point b p is one two f g =
    let first : Gathers old mid ((session, base) ∷ []) = subst (λ (n : ℕ). Gathers old mid ((session, n) ∷ [])) one f in
    let second : Gathers mid new ((session, point) ∷ []) = subst (λ (n : ℕ). Gathers mid new ((session, n) ∷ [])) two g in
    subst (λ (x : Item). Gathers old new (stood_by session x)) (sym is) (gathers_both old mid new ((session, base) ∷ []) ((session, point) ∷ []) first second)

-- The loops.

-- what the items from a place on give: that of the one there, and then of the others
pub flat_more : (f : Item → List (ℕ × ℕ)) (items : List Item) (k : ℕ) (i : Item) → k < length items → i ≡ get_or items k i → flat_map f (drop k items) ≡ f i ++ flat_map f (drop (k + 1) items)
flat_more f items k i lt is = at_drop_more (λ (them : List Item). flat_map f them) items k i lt ∙ ap (λ (x : Item). f x ++ flat_map f (drop (k + 1) items)) (sym is)

-- nothing past the last item
pub flat_end : (f : Item → List (ℕ × ℕ)) (items : List Item) (k : ℕ) → length items ≤ k → flat_map f (drop k items) ≡ []
flat_end f items k h = ap (λ (them : List Item). flat_map f them) (drop_all k items h)

-- the marks of the traces from a place on: those of the one there, and then of the others
pub stood_more : (traces : List Trace) (k : ℕ) (t : Trace) → k < length traces → t ≡ get_or traces k t → stood_in (drop k traces) ≡ flat_map (stood_by t.session) t.items ++ stood_in (drop (k + 1) traces)
stood_more traces k t lt is = at_drop_more (λ (them : List Trace). stood_in them) traces k t lt ∙ ap (λ (x : Trace). flat_map (stood_by x.session) x.items ++ stood_in (drop (k + 1) traces)) (sym is)

-- none past the last trace
pub stood_end : (traces : List Trace) (k : ℕ) → length traces ≤ k → stood_in (drop k traces) ≡ []
stood_end traces k h = ap (λ (them : List Trace). stood_in them) (drop_all k traces h)

-- the flags of the traces from a place on: those of the one there, and then of the others
pub raised_more : (sections : List Section) (traces : List Trace) (k : ℕ) (s : Section) (t : Trace) → length sections ≡ length traces → k < length traces → s ≡ get_or sections k s → t ≡ get_or traces k t
    → raised_in (drop k sections) (drop k traces) ≡ raised_from None s.lines t.items ++ raised_in (drop (k + 1) sections) (drop (k + 1) traces)
raised_more sections traces k s t long lt one two =
    ap (λ (them : List Section). raised_in them (drop k traces)) (drop_more sections k s (omega (arith, long, lt)) ∙ ap (λ (x : Section). x ∷ drop (k + 1) sections) (sym one))
    ∙ ap (λ (them : List Trace). raised_in (s ∷ drop (k + 1) sections) them) (drop_more traces k t lt ∙ ap (λ (x : Trace). x ∷ drop (k + 1) traces) (sym two))

-- none past the last trace
pub raised_end : (sections : List Section) (traces : List Trace) (k : ℕ) → length sections ≡ length traces → length traces ≤ k → raised_in (drop k sections) (drop k traces) ≡ []
raised_end sections traces k long h =
    ap (λ (them : List Section). raised_in them (drop k traces)) (drop_all k sections (omega (arith, long, h)))

-- no flag is raised past the last item
pub raised_none : (flag : Option ℕ) (lines : List ScriptLine) (items : List Item) (k : ℕ) → length items ≤ k → raised_from flag lines (drop k items) ≡ []
raised_none flag lines items k h = ap (λ (them : List Item). raised_from flag lines them) (drop_all k items h)

-- an item that begins a line takes its flag from the script
pub raised_on_line : (flag : Option ℕ) (lines : List ScriptLine) (next : ℕ) (items : List Item) (k : ℕ) (i : Item) → k < length items → i ≡ get_or items k i → begins_line i ≡ true
    → raised_from flag (drop next lines) (drop k items) ≡ raised_from (flag_of_line (slice_get lines next)) (drop (next + 1) lines) (drop (k + 1) items)
raised_on_line flag lines next items k i lt is line =
    ap (λ (them : List Item). raised_from flag (drop next lines) them) (drop_more items k i lt ∙ ap (λ (x : Item). x ∷ drop (k + 1) items) (sym is)) ∙ raised_line flag lines next i (drop (k + 1) items) (slice_get lines next) line refl

-- each other item keeps the flag of its line
pub raised_on_other : (flag : Option ℕ) (lines : List ScriptLine) (items : List Item) (k : ℕ) (i : Item) → k < length items → i ≡ get_or items k i → begins_line i ≡ false
    → raised_from flag lines (drop k items) ≡ raised_by flag i ++ raised_from flag lines (drop (k + 1) items)
raised_on_other flag lines items k i lt is other =
    ap (λ (them : List Item). raised_from flag lines them) (drop_more items k i lt ∙ ap (λ (x : Item). x ∷ drop (k + 1) items) (sym is)) ∙ raised_other flag lines i (drop (k + 1) items) other
