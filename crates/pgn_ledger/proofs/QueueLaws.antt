-- The tests of a full queue and of a floor say what the definitions say.
use Rattle.std.proofs.Common.{◌≡◌, ◌↔◌, ◌⊎◌, ℕ, ◌+◌, ◌<◌, ◌≤◌, ◌==◌, Bool, true, false, not, ◌&&◌, ◌||◌, cond, nat_le, List, [], ◌∷◌, length, take, Option, None, Some, sym, ap, ◌∙◌, refl, inl, inr, arith, subst}
use Rattle.std.specs.Prelude.{IfSome, IsSomeAnd, slice_get}
use Rattle.std.proofs.lemmas.Bool.{cases_Bool, false≢true}
use Rattle.std.proofs.lemmas.Bool.Decides.{Decides-eqb, leb_tells}
use Rattle.std.proofs.lemmas.Option.{slice_get-get_or, slice_get_within}
use Rattle.pgn_base.specs.declared.format.Format.{Format}
use Rattle.pgn_base.specs.declared.note.Note.{Note}
use Rattle.pgn_base.specs.declared.queue_answers.Full.{Full}
use Rattle.pgn_journal.specs.declared.tx.Tx.{Tx}
use Rattle.pgn_journal.specs.declared.tx.Fate.{Fate}
use Rattle.pgn_journal.specs.declared.tx.Fate.TheVariants.{Committed, Aborted}
use Rattle.pgn_journal.specs.Journal.{entry}
use Rattle.pgn_journal.specs.Bytes.{entry_length}
use Rattle.pgn_journal.specs.Packing.{fits, is_page_start, page_of, place, put_all}
use Rattle.pgn_journal.specs.QueueUse.{IsCutShort, IsFloorFor, NoPage}
use Rattle.pgn_ledger.specs.QueueUse.{has_no_page, is_aborted, is_below, is_cut_short, is_held, is_own_floor, is_stopped_at}

Decides-leb : (a b : ℕ) → (nat_le a b ≡ true) ↔ (a ≤ b)
Decides-leb a b = elim (leb_tells a b) [
  | inl h ↦ (λ e. h.1, λ le. h.0)
  | inr h ↦ (λ e. absurd (false≢true (sym h.0 ∙ e)), λ le. absurd (omega (arith, le, h.1)))
]

pub both : (a b : Bool) → (a && b) ≡ true → (a ≡ true) × (b ≡ true)
both true true h = (refl, refl)
both true false h = absurd (let no : ⊥ = cc in no)
both false b h = absurd (let no : ⊥ = cc in no)

pub and_true : (a b : Bool) → a ≡ true → b ≡ true → (a && b) ≡ true
and_true a b p q = ap (λ (t : Bool). t && b) p ∙ q

-- The floor.

held_is : (holder : Option ℕ) (floor at : ℕ) → is_held holder floor at ≡ true → (holder ≡ None) ↔ (floor ≡ at)
held_is None floor at h = (λ e. (Decides-eqb floor at).0 h, λ e. refl)
held_is (Some session) floor at h = (λ e. absurd (let no : ⊥ = cc in no), λ e. absurd (false≢true (sym (ap (λ (b : Bool). not b) ((Decides-eqb floor at).1 e)) ∙ h)))

is_held_as : (holder : Option ℕ) (floor at : ℕ) → (holder ≡ None) ↔ (floor ≡ at) → is_held holder floor at ≡ true
is_held_as None floor at h = (Decides-eqb floor at).1 (h.0 refl)
is_held_as (Some session) floor at h = elim (cases_Bool (floor == at)) [
  | inl is ↦ absurd (let no : Some session ≡ None = h.1 ((Decides-eqb floor at).0 is) in let never : ⊥ = cc in never)
  | inr other ↦ ap (λ (b : Bool). not b) other
]

own_is : (session : ℕ) (mark : Option ℕ) (floor : ℕ) (holder : Option ℕ) → is_own_floor session mark floor holder ≡ true → holder ≡ Some session → mark ≡ Some floor
own_is session mark floor None h e = absurd (let no : ⊥ = cc in no)
own_is session None floor (Some holder) h e =
    let same : holder ≡ session = cc in absurd (false≢true (sym (ap (λ (b : Bool). not b) ((Decides-eqb holder session).1 same)) ∙ h))
own_is session (Some own) floor (Some holder) h e =
    let same : holder ≡ session = cc in
    let at : (own == floor) ≡ true = sym (ap (λ (b : Bool). cond b (own == floor) true) ((Decides-eqb holder session).1 same)) ∙ h in
    ap (λ (n : ℕ). Some n) ((Decides-eqb own floor).0 at)

is_own_as : (session : ℕ) (mark : Option ℕ) (floor : ℕ) (holder : Option ℕ) → (holder ≡ Some session → mark ≡ Some floor) → is_own_floor session mark floor holder ≡ true
is_own_as session mark floor None h = refl
is_own_as session None floor (Some holder) h = elim (cases_Bool (holder == session)) [
  | inl is ↦ absurd (let no : None ≡ Some floor = h (ap (λ (n : ℕ). Some n) ((Decides-eqb holder session).0 is)) in let never : ⊥ = cc in never)
  | inr other ↦ ap (λ (b : Bool). not b) other
]
is_own_as session (Some own) floor (Some holder) h = elim (cases_Bool (holder == session)) [
  | inl is ↦
      let same : Some own ≡ Some floor = h (ap (λ (n : ℕ). Some n) ((Decides-eqb holder session).0 is)) in
      let here : own ≡ floor = cc in
      ap (λ (b : Bool). cond b (own == floor) true) is ∙ (Decides-eqb own floor).1 here
  | inr other ↦ ap (λ (b : Bool). cond b (own == floor) true) other
]

below_is : (mark : Option ℕ) (floor : ℕ) → is_below mark floor ≡ true → IfSome mark (λ own. floor ≤ own)
below_is None floor h = tt
below_is (Some own) floor h = (Decides-leb floor own).0 h

is_below_as : (mark : Option ℕ) (floor : ℕ) → IfSome mark (λ own. floor ≤ own) → is_below mark floor ≡ true
is_below_as None floor h = refl
is_below_as (Some own) floor h = (Decides-leb floor own).1 h

-- the two tests of a floor pass exactly where it is one for the session
pub floor_is : (session : ℕ) (mark : Option ℕ) (floor : ℕ) (holder : Option ℕ) → ((is_below mark floor && is_own_floor session mark floor holder) ≡ true) ↔ IsFloorFor session mark floor holder
floor_is session mark floor holder = (
  λ h. let p = both (is_below mark floor) (is_own_floor session mark floor holder) h in record { below = below_is mark floor p.0; own = own_is session mark floor holder p.1 },
  λ h. and_true (is_below mark floor) (is_own_floor session mark floor holder) (is_below_as mark floor h.below) (is_own_as session mark floor holder h.own),
)

-- A full queue.

or_is : (a b : Bool) → (a || not b) ≡ true → (a ≡ true) ⊎ (b ≡ false)
or_is true b h = inl refl
or_is false true h = absurd (let no : ⊥ = cc in no)
or_is false false h = inr refl

is_or : (a b : Bool) → (a ≡ true) ⊎ (b ≡ false) → (a || not b) ≡ true
is_or true b h = refl
is_or false b (inl e) = absurd (false≢true e)
is_or false b (inr e) = ap (λ (t : Bool). not t) e

aborted_is : (fate : Fate) → is_aborted fate ≡ true → fate ≡ Aborted
aborted_is Aborted h = refl
aborted_is Committed h = absurd (false≢true h)

-- where the notifications end that were queued
abbrev Stops : Format → ℕ → List Note → Option Note → Type 0
Stops format at queued next = (is_page_start (put_all format at queued) ≡ true) ⊎ IsSomeAnd next (λ note. fits (put_all format at queued) (entry_length format note) ≡ false)

stopped_is : (format : Format) (at : ℕ) (queued : List Note) (next : Option Note) → is_stopped_at format at queued next ≡ true → Stops format at queued next
stopped_is format at queued None h = absurd (false≢true h)
stopped_is format at queued (Some note) h = or_is (is_page_start (put_all format at queued)) (fits (put_all format at queued) (entry_length format note)) h

stopped_some : (format : Format) (at : ℕ) (notes queued : List Note) (k : ℕ) (next : Option Note) → slice_get notes k ≡ next → is_stopped_at format at queued next ≡ true → k < length notes
stopped_some format at notes queued k None e h = absurd (false≢true h)
stopped_some format at notes queued k (Some note) e h = slice_get_within notes k note e

is_stopped_as : (format : Format) (at : ℕ) (notes queued : List Note) (k : ℕ) (next : Option Note) → slice_get notes k ≡ next → k < length notes → Stops format at queued next → is_stopped_at format at queued next ≡ true
is_stopped_as format at notes queued k None e lt h = absurd (none_past notes k lt e)
  where
    none_past : (ns : List Note) (i : ℕ) → i < length ns → slice_get ns i ≡ None → ⊥
    none_past ns i lt e = let there = slice_get-get_or ns i (first ns lt) lt in let no : ⊥ = cc in no
      where
        first : (ns : List Note) → i < length ns → Note
        first [] lt = absurd (omega (arith, lt))
        first (n ∷ ns) lt = n
is_stopped_as format at notes queued k (Some note) e lt h = is_or (is_page_start (put_all format at queued)) (fits (put_all format at queued) (entry_length format note)) h

pub cut_short_is : (format : Format) (at queued : ℕ) (tx : Tx) → is_cut_short format at queued tx ≡ true → IsCutShort format at queued tx
cut_short_is format at queued tx h =
    let p = both (is_aborted tx.fate) (tx.queued == queued && is_stopped_at format at (take queued tx.notes) (slice_get tx.notes queued)) h in
    let q = both (tx.queued == queued) (is_stopped_at format at (take queued tx.notes) (slice_get tx.notes queued)) p.1 in
    record {
      aborted = aborted_is tx.fate p.0;
      some = (Decides-eqb tx.queued queued).0 q.0;
      not_all = stopped_some format at tx.notes (take queued tx.notes) queued (slice_get tx.notes queued) refl q.1;
      stopped = stopped_is format at (take queued tx.notes) (slice_get tx.notes queued) q.1;
    }

pub is_cut_short_as : (format : Format) (at queued : ℕ) (tx : Tx) → IsCutShort format at queued tx → is_cut_short format at queued tx ≡ true
is_cut_short_as format at queued tx h =
    and_true (is_aborted tx.fate) (tx.queued == queued && is_stopped_at format at (take queued tx.notes) (slice_get tx.notes queued)) (ap is_aborted h.aborted)
    (and_true (tx.queued == queued) (is_stopped_at format at (take queued tx.notes) (slice_get tx.notes queued)) ((Decides-eqb tx.queued queued).1 h.some)
    (is_stopped_as format at tx.notes (take queued tx.notes) queued (slice_get tx.notes queued) refl h.not_all h.stopped))

-- where the two tests of a full queue pass, it had no page
pub no_page_is : (format : Format) (limit : ℕ) (journal : List Tx) (full : Full) (tx : Tx) → entry journal full.xid ≡ Some tx
    → (is_cut_short format (place format journal full.xid) full.queued tx && has_no_page format limit journal full) ≡ true → NoPage format limit journal full
no_page_is format limit journal full tx e h =
    let head : Bool = full.head_page == page_of (place format journal (full.xid + 1)) in
    let room : Bool = nat_le (full.floor_page + limit) full.head_page in
    let held : Bool = is_held full.holder full.floor_mark full.xid in
    let a = both (is_cut_short format (place format journal full.xid) full.queued tx) (has_no_page format limit journal full) h in
    let b = both (nat_le full.floor_mark full.xid) (full.floor_page == page_of (place format journal full.floor_mark) && (head && (room && held))) a.1 in
    let c = both (full.floor_page == page_of (place format journal full.floor_mark)) (head && (room && held)) b.1 in
    let d = both head (room && held) c.1 in
    let f = both room held d.1 in
    record {
      cut_short = subst (λ (t : Option Tx). IsSomeAnd t (IsCutShort format (place format journal full.xid) full.queued)) (sym e) (cut_short_is format (place format journal full.xid) full.queued tx a.0);
      floor_below = (Decides-leb full.floor_mark full.xid).0 b.0;
      floor = (Decides-eqb full.floor_page (page_of (place format journal full.floor_mark))).0 c.0;
      head = (Decides-eqb full.head_page (page_of (place format journal (full.xid + 1)))).0 d.0;
      no_page = (Decides-leb (full.floor_page + limit) full.head_page).0 f.0;
      holder = held_is full.holder full.floor_mark full.xid f.1;
    }

-- where a full queue had no page, the two tests pass
pub is_no_page : (format : Format) (limit : ℕ) (journal : List Tx) (full : Full) (tx : Tx) → entry journal full.xid ≡ Some tx → NoPage format limit journal full
    → (is_cut_short format (place format journal full.xid) full.queued tx && has_no_page format limit journal full) ≡ true
is_no_page format limit journal full tx e h =
    let head : Bool = full.head_page == page_of (place format journal (full.xid + 1)) in
    let room : Bool = nat_le (full.floor_page + limit) full.head_page in
    let held : Bool = is_held full.holder full.floor_mark full.xid in
    and_true (is_cut_short format (place format journal full.xid) full.queued tx) (has_no_page format limit journal full)
    (is_cut_short_as format (place format journal full.xid) full.queued tx (subst (λ (t : Option Tx). IsSomeAnd t (IsCutShort format (place format journal full.xid) full.queued)) e h.cut_short))
    (and_true (nat_le full.floor_mark full.xid) (full.floor_page == page_of (place format journal full.floor_mark) && (head && (room && held))) ((Decides-leb full.floor_mark full.xid).1 h.floor_below)
    (and_true (full.floor_page == page_of (place format journal full.floor_mark)) (head && (room && held)) ((Decides-eqb full.floor_page (page_of (place format journal full.floor_mark))).1 h.floor)
    (and_true head (room && held) ((Decides-eqb full.head_page (page_of (place format journal (full.xid + 1)))).1 h.head)
    (and_true room held ((Decides-leb (full.floor_page + limit) full.head_page).1 h.no_page) (is_held_as full.holder full.floor_mark full.xid h.holder)))))

-- no full queue is shown for a number without a transaction
pub none_no_page : (format : Format) (limit : ℕ) (journal : List Tx) (full : Full) → entry journal full.xid ≡ None → NoPage format limit journal full → ⊥
none_no_page format limit journal full e h = subst (λ (t : Option Tx). IsSomeAnd t (IsCutShort format (place format journal full.xid) full.queued)) e h.cut_short
