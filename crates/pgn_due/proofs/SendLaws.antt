-- What a journal sent, from transaction to transaction.
use Rattle.std.proofs.Common.{◌≡◌, ℕ, zero, suc, ◌+◌, ◌-◌, ◌<◌, ◌≤◌, min, List, [], ◌∷◌, ◌++◌, Bool, cond, length, get_or, take, map, Option, None, Some, slice_index, refl, sym, ap, ◌∙◌, inl, inr, arith, append_assoc}
use Rattle.std.specs.Prelude.{slice_get}
use Rattle.std.specs.Option.{option_map}
use Rattle.std.proofs.lemmas.Bool.{cases_lt}
use Rattle.std.proofs.lemmas.List.{append-nil, get_or_append_left, get_or_push, length-append, length-map, length-take, map-append, take_all, take_more}
use Rattle.std.proofs.lemmas.Option.{get_or_from_slice_get, none-some, same_Some, slice_get-map, slice_get_read, slice_get_within}
use Rattle.pgn_base.specs.declared.limits.TheConstants.{FIRST_XID}
use Rattle.pgn_base.specs.declared.note.Note.{Note}
use Rattle.pgn_base.specs.declared.note.Delivery.{Delivery}
use Rattle.pgn_journal.specs.declared.tx.Tx.{Tx}
use Rattle.pgn_journal.specs.declared.tx.Fate.TheVariants.{Committed}
use Rattle.pgn_journal.specs.Journal.{is_committed}
use Rattle.pgn_journal.specs.Due.{delivery}
use Rattle.pgn_due.specs.declared.sends.Spot.{Spot}
use Rattle.pgn_due.specs.Sent.{AreStarts, sent_before, sent_by, sent_from, sent_in, shown_at, shown_in, shown_note}

-- the first few and one more
pub take_one : {X : Type 0} (xs : List X) (k : ℕ) (x : X) → slice_get xs k ≡ Some x → take (k + 1) xs ≡ take k xs ++ x ∷ []
take_one xs k x e = take_more xs k x (slice_get_within xs k x e) ∙ ap (λ y. take k xs ++ y ∷ []) (get_or_from_slice_get xs k x x e)

stands_there : {X : Type 0} (xs : List X) (k : ℕ) → k < length xs → slice_get xs k ≡ None → ⊥
stands_there [] k lt e = omega (arith, lt)
stands_there (x ∷ xs) zero lt e = none-some x (sym e)
stands_there (x ∷ xs) (suc k) lt e = stands_there xs k (omega (arith, lt)) e

-- A transaction's notifications.

abbrev pub shown_by : ℕ → Tx → Note → ℕ × Delivery
shown_by x tx note = (tx.db, delivery x tx.session note)

spot_shows : (journal : List Tx) (tx : Tx) (at k : ℕ) (note : Note) → slice_get journal at ≡ Some tx → slice_get tx.notes k ≡ Some note → shown_at journal (record { tx = at; note = k }) ≡ Some (shown_by (FIRST_XID + at) tx note)
spot_shows journal tx at k note e f = ap (λ (o : Option Tx). shown_in (FIRST_XID + at) k o) e ∙ ap (λ (o : Option Note). shown_note (FIRST_XID + at) tx o) f

-- the spots, with the first few notifications of a transaction more
abbrev pub Shown : List Tx → ℕ → Tx → List Note → List Spot → List Spot → Type 0
Shown journal at tx notes old new = map (shown_at journal) new ≡ map (shown_at journal) old ++ map Some (map (shown_by (FIRST_XID + at) tx) notes)

-- no notifications of a transaction are shown by the spots that were
pub shown_none : (journal : List Tx) (at : ℕ) (tx : Tx) (spots : List Spot) → Shown journal at tx [] spots spots
shown_none journal at tx spots = sym (append-nil (map (shown_at journal) spots))

-- one notification more, with its spot at the end
pub shown_more : (journal : List Tx) (at k : ℕ) (tx : Tx) (old spots new : List Spot) → k < length tx.notes → new ≡ spots ++ record { tx = at; note = k } ∷ [] → slice_get journal at ≡ Some tx
    → Shown journal at tx (take k tx.notes) old spots → Shown journal at tx (take (k + 1) tx.notes) old new
shown_more journal at k tx old spots new lt push here h = by (slice_get tx.notes k) refl
  where
    by : (o : Option Note) → slice_get tx.notes k ≡ o → Shown journal at tx (take (k + 1) tx.notes) old new
    by None e = absurd (stands_there tx.notes k lt e)
    by (Some note) e =
        let f = shown_by (FIRST_XID + at) tx in
        let these : map Some (map f (take (k + 1) tx.notes)) ≡ map Some (map f (take k tx.notes)) ++ Some (f note) ∷ [] =
        ap (λ (notes : List Note). map Some (map f notes)) (take_one tx.notes k note e) ∙ ap (map Some) (map-append f (take k tx.notes) (note ∷ [])) ∙ map-append Some (map f (take k tx.notes)) (f note ∷ []) in
        ap (map (shown_at journal)) push ∙ map-append (shown_at journal) spots (record { tx = at; note = k } ∷ [])
        ∙ ap (λ (shows : List (Option (ℕ × Delivery))). shows ++ shown_at journal (record { tx = at; note = k }) ∷ []) h
        ∙ ap (λ (one : Option (ℕ × Delivery)). (map (shown_at journal) old ++ map Some (map f (take k tx.notes))) ++ one ∷ []) (spot_shows journal tx at k note here e)
        ∙ append_assoc (map (shown_at journal) old) (map Some (map f (take k tx.notes))) (Some (f note) ∷ [])
        ∙ ap (λ (shows : List (Option (ℕ × Delivery))). map (shown_at journal) old ++ shows) (sym these)

-- all notifications of a transaction that committed
pub shown_all : (journal : List Tx) (at : ℕ) (tx : Tx) (old new : List Spot) → tx.fate ≡ Committed → Shown journal at tx tx.notes old new → map (shown_at journal) new ≡ map (shown_at journal) old ++ map Some (sent_by (FIRST_XID + at) tx)
shown_all journal at tx old new is h =
    h ∙ ap (λ (b : Bool). map (shown_at journal) old ++ map Some (cond b (map (shown_by (FIRST_XID + at) tx) tx.notes) [])) (sym (ap is_committed is))

-- One transaction more.

sent_push : (x : ℕ) (txs : List Tx) (tx : Tx) → sent_from x (txs ++ tx ∷ []) ≡ sent_from x txs ++ sent_by (x + length txs) tx
sent_push x [] tx = append-nil (sent_by x tx) ∙ ap (λ (n : ℕ). sent_by n tx) (omega arith)
sent_push x (t ∷ txs) tx =
    ap (λ (sent : List (ℕ × Delivery)). sent_by x t ++ sent) (sent_push (x + 1) txs tx) ∙ sym (append_assoc (sent_by x t) (sent_from (x + 1) txs) (sent_by (x + 1 + length txs) tx))
    ∙ ap (λ (n : ℕ). (sent_by x t ++ sent_from (x + 1) txs) ++ sent_by n tx) (omega arith)

-- what the first k transactions sent, and one more
pub sent_one : (journal : List Tx) (k : ℕ) (tx : Tx) → slice_get journal k ≡ Some tx → sent_in (take (k + 1) journal) ≡ sent_in (take k journal) ++ sent_by (FIRST_XID + k) tx
sent_one journal k tx e =
    let long : length (take k journal) ≡ k = omega (arith, length-take k journal, slice_get_within journal k tx e) in
    ap sent_in (take_one journal k tx e) ∙ sent_push FIRST_XID (take k journal) tx ∙ ap (λ (n : ℕ). sent_in (take k journal) ++ sent_by (FIRST_XID + n) tx) long

-- one transaction more: its notifications' spots show what the longer front of the journal sends
pub sent_more : (journal : List Tx) (k : ℕ) (tx : Tx) (spots new : List Spot) → slice_get journal k ≡ Some tx → map (shown_at journal) new ≡ map (shown_at journal) spots ++ map Some (sent_by (FIRST_XID + k) tx)
    → map (shown_at journal) spots ≡ map Some (sent_in (take k journal)) → map (shown_at journal) new ≡ map Some (sent_in (take (k + 1) journal))
sent_more journal k tx spots new e more h =
    more ∙ ap (λ (shows : List (Option (ℕ × Delivery))). shows ++ map Some (sent_by (FIRST_XID + k) tx)) h
    ∙ sym (map-append Some (sent_in (take k journal)) (sent_by (FIRST_XID + k) tx)) ∙ ap (map Some) (sym (sent_one journal k tx e))

-- how many spots there are
pub spots_long : (journal : List Tx) (spots : List Spot) (sent : List (ℕ × Delivery)) → map (shown_at journal) spots ≡ map Some sent → length spots ≡ length sent
spots_long journal spots sent h = sym (length-map spots (shown_at journal)) ∙ ap length h ∙ length-map sent Some

-- how many were sent before each of the first few
abbrev pub Begun : List Tx → List ℕ → ℕ → Type 0
Begun journal starts n = (k : ℕ) → k < n → slice_index starts k ≡ length (sent_in (take k journal))

-- one transaction more begins where those before it have sent so much
pub begun_more : (journal : List Tx) (starts new : List ℕ) (n start : ℕ) → length starts ≡ n → new ≡ starts ++ start ∷ [] → start ≡ length (sent_in (take n journal)) → Begun journal starts n → Begun journal new (n + 1)
begun_more journal starts new n start long push is h k lt = ap (λ (xs : List ℕ). slice_index xs k) push ∙ elim (cases_lt k n) as (λ _. slice_index (starts ++ start ∷ []) k ≡ length (sent_in (take k journal))) [
  | inl before ↦ get_or_append_left starts (start ∷ []) 0 k (omega (arith, before, long)) ∙ h k before
  | inr behind ↦
      let at : n ≡ k = omega (arith, behind, lt) in
      get_or_push starts start 0 k (omega (arith, at, long)) ∙ is ∙ ap (λ (m : ℕ). length (sent_in (take m journal))) at
]

-- and there is one more
pub starts_longer : (starts new : List ℕ) (n start : ℕ) → length starts ≡ n → new ≡ starts ++ start ∷ [] → length new ≡ n + 1
starts_longer starts new n start long push = ap length push ∙ length-append starts (start ∷ []) ∙ ap (λ (m : ℕ). m + 1) long

-- the spots of all transactions
pub sent_all : (journal : List Tx) (spots : List Spot) (n : ℕ) → length journal ≤ n → map (shown_at journal) spots ≡ map Some (sent_in (take n journal)) → map (shown_at journal) spots ≡ map Some (sent_in journal)
sent_all journal spots n past h = h ∙ ap (λ (txs : List Tx). map Some (sent_in txs)) (take_all n journal past)

-- the starts of all transactions, and the end
pub starts_all : (journal : List Tx) (starts new : List ℕ) (n start : ℕ) → length starts ≡ n → length journal ≤ n → n ≤ length journal → new ≡ starts ++ start ∷ [] → start ≡ length (sent_in (take n journal)) → Begun journal starts n
    → AreStarts journal new
starts_all journal starts new n start long past within push is h = record {
  counted = omega (arith, starts_longer starts new n start long push, past, within);
  each = λ k le. begun_more journal starts new n start long push is h k (omega (arith, le, past));
}

-- the first few, where there are fewer
take_least : (txs : List Tx) (k : ℕ) → take (min k (length txs)) txs ≡ take k txs
take_least [] k =
    let none : List Tx = [] in
    let e : min k (length none) ≡ 0 = omega arith in
    ap (λ (n : ℕ). take n none) e ∙ nothing k
  where
    nothing : (n : ℕ) → [] ≡ take n (let none : List Tx = [] in none)
    nothing zero = refl
    nothing (suc n) = refl
take_least (tx ∷ txs) zero = ap (λ (n : ℕ). take n (tx ∷ txs)) (let e : min zero (length (tx ∷ txs)) ≡ 0 = omega arith in e)
take_least (tx ∷ txs) (suc k) =
    let e : min (suc k) (length (tx ∷ txs)) ≡ suc (min k (length txs)) = omega arith in
    ap (λ (n : ℕ). take n (tx ∷ txs)) e ∙ ap (λ (ts : List Tx). tx ∷ ts) (take_least txs k)

-- the start of a number's transaction, or the end
pub start_at : (journal : List Tx) (starts : List ℕ) (x at : ℕ) → AreStarts journal starts → at ≡ min (x - FIRST_XID) (length journal) → slice_index starts at ≡ sent_before journal x
start_at journal starts x at h is =
    h.each at (omega (arith, is)) ∙ ap (λ (n : ℕ). length (sent_in (take n journal))) is ∙ ap (λ (txs : List Tx). length (sent_in txs)) (take_least journal (x - FIRST_XID))

-- A spot.

-- what stands in a spot
pub record Stands (journal : List Tx) (spot : Spot) (sent : ℕ × Delivery) : Type 0 where
  pub tx : Tx
  pub sender : slice_get journal spot.tx ≡ Some tx
  pub note : Note
  pub has : slice_get tx.notes spot.note ≡ Some note
  pub shows : sent ≡ shown_by (FIRST_XID + spot.tx) tx note

stands : (journal : List Tx) (spot : Spot) (sent : ℕ × Delivery) → shown_at journal spot ≡ Some sent → Stands journal spot sent
stands journal spot sent h = by (slice_get journal spot.tx) refl
  where
    by : (o : Option Tx) → slice_get journal spot.tx ≡ o → Stands journal spot sent
    by None e = absurd (none-some sent (sym (ap (λ (o : Option Tx). shown_in (FIRST_XID + spot.tx) spot.note o) e) ∙ h))
    by (Some tx) e = noted (slice_get tx.notes spot.note) refl
      where
        shows : shown_note (FIRST_XID + spot.tx) tx (slice_get tx.notes spot.note) ≡ Some sent
        shows = sym (ap (λ (o : Option Tx). shown_in (FIRST_XID + spot.tx) spot.note o) e) ∙ h

        noted : (o : Option Note) → slice_get tx.notes spot.note ≡ o → Stands journal spot sent
        noted None f = absurd (none-some sent (sym (ap (λ (o : Option Note). shown_note (FIRST_XID + spot.tx) tx o) f) ∙ shows))
        noted (Some note) f = record {
          tx = tx;
          sender = e;
          note = note;
          has = f;
          shows = same_Some sent (shown_by (FIRST_XID + spot.tx) tx note) (sym shows ∙ ap (λ (o : Option Note). shown_note (FIRST_XID + spot.tx) tx o) f);
        }

-- in the place of each that was sent stands its spot
pub record StandsAt (journal : List Tx) (at : ℕ) (spot : Spot) : Type 0 where
  pub sent : ℕ × Delivery
  pub is : slice_get (sent_in journal) at ≡ Some sent
  pub stands : Stands journal spot sent

-- where the spots show what was sent, one of them stands in its place
pub stands_at : (journal : List Tx) (spots : List Spot) (at : ℕ) (spot : Spot) → map (shown_at journal) spots ≡ map Some (sent_in journal) → slice_get spots at ≡ Some spot → StandsAt journal at spot
stands_at journal spots at spot h e = by (slice_get (sent_in journal) at) refl
  where
    both : Some (shown_at journal spot) ≡ option_map Some (slice_get (sent_in journal) at)
    both = ap (option_map (shown_at journal)) (sym e) ∙ sym (slice_get-map (shown_at journal) spots at) ∙ ap (λ (shows : List (Option (ℕ × Delivery))). slice_get shows at) h ∙ slice_get-map Some (sent_in journal) at

    by : (o : Option (ℕ × Delivery)) → slice_get (sent_in journal) at ≡ o → StandsAt journal at spot
    by None f = absurd (none-some (shown_at journal spot) (sym (both ∙ ap (option_map Some) f)))
    by (Some sent) f = record {
      sent = sent;
      is = f;
      stands = stands journal spot sent (same_Some (shown_at journal spot) (Some sent) (both ∙ ap (option_map Some) f));
    }

-- as the function that reads it finds it
pub stands_here : (journal : List Tx) (spots : List Spot) (at : ℕ) (spot : Spot) → map (shown_at journal) spots ≡ map Some (sent_in journal) → at < length (sent_in journal) → spot ≡ get_or spots at spot → StandsAt journal at spot
stands_here journal spots at spot h lt is =
    stands_at journal spots at spot h (slice_get_read spots (length spots) at spot refl (omega (arith, lt, spots_long journal spots (sent_in journal) h)) is)

-- a spot is of a transaction of the journal
pub sender_within : (journal : List Tx) (at : ℕ) (spot : Spot) → StandsAt journal at spot → spot.tx < length journal
sender_within journal at spot s = slice_get_within journal spot.tx s.stands.tx s.stands.sender

sender_is : (journal : List Tx) (at : ℕ) (spot : Spot) (d : Tx) (s : StandsAt journal at spot) → s.stands.tx ≡ get_or journal spot.tx d
sender_is journal at spot d s = sym (get_or_from_slice_get journal spot.tx s.stands.tx d s.stands.sender)

-- a spot's notification is the one of its transaction that it says
pub note_there : (journal : List Tx) (at : ℕ) (spot : Spot) (d : Tx) (notes : List Note) (s : StandsAt journal at spot) → notes ≡ (get_or journal spot.tx d).notes → slice_get notes spot.note ≡ Some s.stands.note
note_there journal at spot d notes s these =
    ap (λ (ns : List Note). slice_get ns spot.note) these ∙ ap (λ (tx : Tx). slice_get tx.notes spot.note) (sym (sender_is journal at spot d s)) ∙ s.stands.has

-- a spot is of one of its transaction's notifications
pub note_within : (journal : List Tx) (at : ℕ) (spot : Spot) (d : Tx) (notes : List Note) (s : StandsAt journal at spot) → notes ≡ (get_or journal spot.tx d).notes → spot.note < length notes
note_within journal at spot d notes s these = slice_get_within notes spot.note s.stands.note (note_there journal at spot d notes s these)

-- what a spot shows is what was sent at its place
pub shown_there : (journal : List Tx) (at : ℕ) (spot : Spot) (d : Tx) (notes : List Note) (note : Note) (s : StandsAt journal at spot) → notes ≡ (get_or journal spot.tx d).notes → note ≡ get_or notes spot.note note
    → slice_get (sent_in journal) at ≡ Some (shown_by (FIRST_XID + spot.tx) (get_or journal spot.tx d) note)
shown_there journal at spot d notes note s these that =
    let x = FIRST_XID + spot.tx in
    let same : s.stands.note ≡ note = sym (that ∙ get_or_from_slice_get notes spot.note s.stands.note note (note_there journal at spot d notes s these)) in
    s.is ∙ ap (λ (one : ℕ × Delivery). Some one) (s.stands.shows ∙ ap (λ (tx : Tx). shown_by x tx s.stands.note) (sender_is journal at spot d s) ∙ ap (λ (n : Note). shown_by x (get_or journal spot.tx d) n) same)
