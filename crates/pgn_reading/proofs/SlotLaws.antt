-- Places that are made, filled and kept.
use Rattle.std.proofs.Common.{◌≡◌, ℕ, zero, suc, ◌+◌, ◌-◌, ◌<◌, ◌≤◌, List, [], ◌∷◌, ◌++◌, length, map, filter_map, take, replicate, get_or, Option, Some, None, IfSome, slice_get, All, Contains, inl, inr, sym, ap, ◌∙◌, refl, subst, arith, append-nil, append_assoc, take_all, Result, Ok, Err, IfOk, length-append}
use Rattle.std.proofs.lemmas.Bool.Decides.{eqb_tells}
use Rattle.std.proofs.lemmas.Option.{IfSome_then, slice_get_within, none-some, same_Some}
use Rattle.std.specs.List.{cons_option}
use Rattle.std.specs.Option.{option_map}
use Rattle.std.proofs.lemmas.List.Elements.{filter_map-append, All-head, Contains-append_cases, All-tail, All-weaker, All-more, All-get_or}
use Rattle.pgn_base.specs.declared.limits.TheConstants.{FIRST_XID}
use Rattle.pgn_journal.specs.declared.tx.Tx.{Tx}
use Rattle.pgn_model.specs.declared.item.Item.{Item}
use Rattle.pgn_model.specs.declared.item.Item.TheVariants.{Line, Enlist, Publish, QueueFull, Leave, Reply, Refuse, Channels, Used, Raise, Found, TimedOut, Read}
use Rattle.pgn_model.specs.declared.trace.Trace.{Trace}
use Rattle.pgn_model.specs.Legal.{finished_xid, finished_xids}
use Rattle.pgn_reading.specs.Merged.{ShowsJournal, IsEntry, IsShownIn, finished}
use Rattle.pgn_reading.specs.Slots.{Holds, IsPartOf, GoesOnEmpty, HasPlacedAll, Keeps, IsInPlace, IsPlaced, IsFilled, HasPlaced}

-- one more empty place
replicate-push : (n : ℕ) (slot : Option Tx) → replicate n slot ++ slot ∷ [] ≡ replicate (suc n) slot
replicate-push zero slot = refl
replicate-push (suc n) slot = ap (λ (slots : List (Option Tx)). slot ∷ slots) (replicate-push n slot)

-- a further slot that is empty stands behind the places that count
pub one-empty : (old new : List (Option Tx)) (place : ℕ) → length new ≤ place → GoesOnEmpty old new place → GoesOnEmpty old (new ++ None ∷ []) place
one-empty old new place few h = record {
  more = suc h.more;
  longer = ap (λ (slots : List (Option Tx)). slots ++ None ∷ []) h.longer ∙ append_assoc old (replicate h.more None) (None ∷ []) ∙ ap (λ (slots : List (Option Tx)). old ++ slots) (replicate-push h.more None);
  no_more = omega (arith, few, length-append new (None ∷ []));
}

-- what stands in the journal is put into its place
module _ (journal : List Tx) (old new : List (Option Tx)) (place : ℕ) (tx : Tx) (part : IsPartOf journal old) (is : slice_get journal place ≡ Some tx) (f : IsFilled old new place tx) where
  filled-keeps : Keeps old new
  filled-keeps k other h = elim (eqb_tells k place) as (λ _. Holds new k other) [
    | inl same ↦
        let there : slice_get journal place ≡ Some other = subst (λ (n : ℕ). slice_get journal n ≡ Some other) same.1 (part.same k other h) in
        subst (λ (n : ℕ). Holds new n other) (sym same.1) (f.there ∙ ap (λ (t : Tx). Some (Some t)) (same_Some tx other (sym is ∙ there)))
    | inr apart ↦ (f.others k other apart.1).1 h
  ]

  filled-same : (k : ℕ) (other : Tx) → Holds new k other → slice_get journal k ≡ Some other
  filled-same k other h = elim (eqb_tells k place) as (λ _. slice_get journal k ≡ Some other) [
    | inl same ↦
        let there : Holds new place other = subst (λ (n : ℕ). Holds new n other) same.1 h in
        let e : tx ≡ other = same_Some tx other (same_Some (Some tx) (Some other) (sym f.there ∙ there)) in
        ap (λ (n : ℕ). slice_get journal n) same.1 ∙ is ∙ ap (λ (t : Tx). Some t) e
    | inr apart ↦ part.same k other ((f.others k other apart.1).0 h)
  ]

  filled-part : IsPartOf journal new
  filled-part = record { few = omega (arith, f.exact, part.few, slice_get_within journal place tx is); same = filled-same }

-- what stands in its place stays there
placed-kept : (old new : List (Option Tx)) (session db : ℕ) (item : Item) → Keeps old new → IsPlaced old session db item → IsPlaced new session db item
placed-kept old new session db item keeps h = IfSome_then (finished session db item) h (λ pair there. keeps (pair.0 - FIRST_XID) pair.1 there)

pub all-kept : (old new : List (Option Tx)) (session db : ℕ) (items : List Item) → Keeps old new → All (IsPlaced old session db) items → All (IsPlaced new session db) items
all-kept old new session db items keeps h = All-weaker (IsPlaced old session db) (IsPlaced new session db) (λ item. placed-kept old new session db item keeps) items h

-- one more item that shows no transaction
pub placed-none : (journal : List Tx) (session db : ℕ) (items : List Item) (i : ℕ) (d : Item) (old new : List (Option Tx)) → i < length items → finished session db (get_or items i d) ≡ None
    → HasPlaced journal session db (take i items) old new → HasPlaced journal session db (take (i + 1) items) old new
placed-none journal session db items i d old new lt none h = record {
  keeps = h.keeps;
  placed = All-more (IsPlaced new session db) items i d lt h.placed (subst (λ (o : Option (ℕ × Tx)). IfSome o (IsInPlace new)) (sym none) tt);
  part = h.part;
}

-- one more item whose transaction was put into its place
pub placed-one : (journal : List Tx) (session db : ℕ) (items : List Item) (i : ℕ) (d : Item) (pair : ℕ × Tx) (old mid new : List (Option Tx))
    → i < length items → finished session db (get_or items i d) ≡ Some pair → All (IsShownIn journal session db) items → IsFilled mid new (pair.0 - FIRST_XID) pair.1
    → HasPlaced journal session db (take i items) old mid → HasPlaced journal session db (take (i + 1) items) old new
placed-one journal session db items i d pair old mid new lt is shown f h =
    let entry : IsEntry journal pair = subst (λ (o : Option (ℕ × Tx)). IfSome o (IsEntry journal)) is (All-get_or (IsShownIn journal session db) items i d lt shown) in
    let keeps : Keeps mid new = filled-keeps journal mid new (pair.0 - FIRST_XID) pair.1 h.part entry.1 f in
    record {
      keeps = λ k tx there. keeps k tx (h.keeps k tx there);
      placed = All-more (IsPlaced new session db) items i d lt (all-kept mid new session db (take i items) keeps h.placed) (subst (λ (o : Option (ℕ × Tx)). IfSome o (IsInPlace new)) (sym is) f.there);
      part = filled-part journal mid new (pair.0 - FIRST_XID) pair.1 h.part entry.1 f;
    }

-- one more trace
pub placed-more : (journal : List Tx) (traces : List Trace) (i : ℕ) (d : Trace) (old new : List (Option Tx)) → i < length traces → HasPlacedAll journal (take i traces) old
    → HasPlaced journal (get_or traces i d).session (get_or traces i d).db (get_or traces i d).items old new → HasPlacedAll journal (take (i + 1) traces) new
placed-more journal traces i d old new lt h more = record {
  placed = All-more (λ trace. All (IsPlaced new trace.session trace.db) trace.items) traces i d lt
      (All-weaker (λ trace. All (IsPlaced old trace.session trace.db) trace.items) (λ trace. All (IsPlaced new trace.session trace.db) trace.items)
      (λ trace there. all-kept old new trace.session trace.db trace.items more.keeps there) (take i traces) h.placed)
      more.placed;
  part = more.part;
}

-- the number of an item's transaction
number-shown : (session db : ℕ) (item : Item) → finished_xid item ≡ option_map (λ pair. pair.0) (finished session db item)
number-shown session db (Line line) = refl
number-shown session db (Enlist base point) = refl
number-shown session db (Publish xid notes) = refl
number-shown session db (QueueFull full notes) = refl
number-shown session db Leave = refl
number-shown session db (Reply tag warning) = refl
number-shown session db (Refuse refusal) = refl
number-shown session db (Channels names) = refl
number-shown session db (Used usage) = refl
number-shown session db (Raise value) = refl
number-shown session db (Found value) = refl
number-shown session db (TimedOut looks) = refl
number-shown session db (Read from to got) = refl

some-placed : (o : Option (ℕ × Tx)) (x : ℕ) (slots : List (Option Tx)) → IfSome o (IsInPlace slots) → option_map (λ pair. pair.0) o ≡ Some x → (tx : Tx) × Holds slots (x - FIRST_XID) tx
some-placed None x slots h e = absurd (none-some x e)
some-placed (Some pair) x slots h e = (pair.1, subst (λ (n : ℕ). Holds slots (n - FIRST_XID) pair.1) (same_Some pair.0 x e) h)

only : (n x : ℕ) → Contains (n ∷ []) x → n ≡ x
only n x (zero, lt, e) = e
only n x (suc k, lt, e) = absurd (omega (arith, lt))

-- what items show as finished with a number stands in its place
number-placed : (session db : ℕ) (items : List Item) (x : ℕ) (slots : List (Option Tx)) → All (IsPlaced slots session db) items → Contains (finished_xids items) x
    → (tx : Tx) × Holds slots (x - FIRST_XID) tx
number-placed session db [] x slots h there = absurd (omega (arith, there.1))
number-placed session db (item ∷ items) x slots h there =
    by (finished_xid item) refl (λ rest. number-placed session db items x slots (All-tail (IsPlaced slots session db) item items h) rest) there
  where
    by : (o : Option ℕ) → finished_xid item ≡ o → (Contains (finished_xids items) x → (tx : Tx) × Holds slots (x - FIRST_XID) tx) → Contains (cons_option o (finished_xids items)) x → (tx : Tx) × Holds slots (x - FIRST_XID) tx
    by None e later is = later is
    by (Some n) e later is = elim (Contains-append_cases (n ∷ []) (finished_xids items) x is) as (λ _. (tx : Tx) × Holds slots (x - FIRST_XID) tx) [
      | inl first ↦ some-placed (finished session db item) x slots (All-head (IsPlaced slots session db) item items h) (sym (number-shown session db item) ∙ e ∙ ap (λ (m : ℕ). Some m) (only n x first))
      | inr rest ↦ later rest
    ]

-- places that hold all of a journal, and no more
whole : (journal : List Tx) (slots : List (Option Tx)) → length slots ≤ length journal → ((k : ℕ) (tx : Tx) → slice_get journal k ≡ Some tx → Holds slots k tx) → slots ≡ map Some journal
whole [] [] few all = refl
whole [] (slot ∷ slots) few all = absurd (omega (arith, few))
whole (tx ∷ journal) [] few all = absurd (none-some (Some tx) (all 0 tx refl))
whole (tx ∷ journal) (slot ∷ slots) few all =
    ap (λ (o : Option Tx). o ∷ slots) (same_Some slot (Some tx) (all 0 tx refl)) ∙ ap (λ (os : List (Option Tx)). Some tx ∷ os) (whole journal slots (omega (arith, few)) (λ k t is. all (suc k) t is))

-- what stands in places that are all taken
taken-all : (txs : List Tx) → filter_map (λ (slot : Option Tx). slot) (map Some txs) ≡ txs
taken-all [] = refl
taken-all (tx ∷ txs) = ap (λ (rest : List Tx). tx ∷ rest) (taken-all txs)

-- one more place is looked at
taken-push : (slots : List (Option Tx)) (slot : Option Tx) (txs : List Tx) → txs ≡ filter_map (λ (o : Option Tx). o) slots → txs ++ cons_option slot [] ≡ filter_map (λ (o : Option Tx). o) (slots ++ slot ∷ [])
taken-push slots slot txs e = ap (λ (ts : List Tx). ts ++ cons_option slot []) e ∙ sym (filter_map-append (λ (o : Option Tx). o) slots (slot ∷ []))

-- an empty slot gives no transaction
pub taken-none : (slots : List (Option Tx)) (slot : Option Tx) (txs : List Tx) → slot ≡ None → txs ≡ filter_map (λ (o : Option Tx). o) slots → txs ≡ filter_map (λ (o : Option Tx). o) (slots ++ slot ∷ [])
taken-none slots slot txs none e = sym (append-nil txs) ∙ ap (λ (o : Option Tx). txs ++ cons_option o []) (sym none) ∙ taken-push slots slot txs e

-- a full one gives its own
pub taken-one : (slots : List (Option Tx)) (slot : Option Tx) (txs new : List Tx) (tx : Tx) → slot ≡ Some tx → new ≡ txs ++ tx ∷ [] → txs ≡ filter_map (λ (o : Option Tx). o) slots
    → new ≡ filter_map (λ (o : Option Tx). o) (slots ++ slot ∷ [])
taken-one slots slot txs new tx some more e = more ∙ ap (λ (o : Option Tx). txs ++ cons_option o []) (sym some) ∙ taken-push slots slot txs e

-- where the items of all traces were put into their places, the places hold the journal that the traces show
module _ (journal : List Tx) (traces : List Trace) (slots : List (Option Tx)) (shows : ShowsJournal journal traces) (h : HasPlacedAll journal traces slots) where
  holds : (k : ℕ) (tx : Tx) → slice_get journal k ≡ Some tx → Holds slots k tx
  holds k tx is =
      let some = shows.whole k (slice_get_within journal k tx is) in
      let trace : Trace = some.1 in
      let at : Trace = get_or traces some.0 trace in
      let placed : All (IsPlaced slots trace.session trace.db) trace.items =
      subst (λ (t : Trace). All (IsPlaced slots t.session t.db) t.items) some.3 (All-get_or (λ t. All (IsPlaced slots t.session t.db) t.items) traces some.0 trace some.2 h.placed) in
      let there = number-placed trace.session trace.db trace.items (FIRST_XID + k) slots placed some.4 in
      let held : Holds slots k there.0 = subst (λ (n : ℕ). Holds slots n there.0) (omega arith) there.1 in
      held ∙ ap (λ (t : Tx). Some (Some t)) (same_Some there.0 tx (sym (h.part.same k there.0 held) ∙ is))

  taken-is : (txs : List Tx) → txs ≡ filter_map (λ (slot : Option Tx). slot) slots → txs ≡ journal
  taken-is txs e = e ∙ ap (λ (os : List (Option Tx)). filter_map (λ (slot : Option Tx). slot) os) (whole journal slots h.part.few holds) ∙ taken-all journal

-- once each trace was placed, all are
pub all-placed : (journal : List Tx) (traces : List Trace) (i : ℕ) (slots : List (Option Tx)) → length traces ≤ i → HasPlacedAll journal (take i traces) slots → HasPlacedAll journal traces slots
all-placed journal traces i slots le h = subst (λ (ts : List Trace). HasPlacedAll journal ts slots) (take_all i traces le) h

-- slots into which all was placed give the journal
pub taken-ok : {V E : Type 0} (items : V → List Tx) (journal : List Tx) (traces : List Trace) (slots : List (Option Tx)) (result : Result V E) → ShowsJournal journal traces → HasPlacedAll journal traces slots
    → IfOk result (λ txs. items txs ≡ filter_map (λ slot. slot) slots) → IfOk result (λ txs. items txs ≡ journal)
taken-ok items journal traces slots (Ok txs) shows h is = taken-is journal traces slots shows h (items txs) is
taken-ok items journal traces slots (Err e) shows h is = tt
