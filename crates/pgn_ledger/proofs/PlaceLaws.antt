-- Places of a journal's transactions.
use Rattle.std.proofs.Common.{◌≡◌, ℕ, zero, suc, ◌+◌, ◌-◌, ◌*◌, ◌^◌, ◌<◌, ◌≤◌, min, List, [], ◌∷◌, ◌++◌, length, get_or, take, drop, Some, fold, sym, ap, ◌∙◌, refl, arith, append_assoc}
use Rattle.std.specs.Prelude.{All, slice_get}
use Rattle.std.proofs.lemmas.List.{at_drop_more, drop_all}
use Rattle.std.proofs.lemmas.List.Sums.{sum_by-cons}
use Rattle.std.proofs.lemmas.Option.{slice_get_read}
use Rattle.pgn_base.specs.declared.limits.TheConstants.{FIRST_XID}
use Rattle.pgn_base.specs.declared.format.Format.{Format}
use Rattle.pgn_journal.specs.declared.tx.Tx.{Tx}
use Rattle.pgn_journal.specs.Packing.{after, place}
use Rattle.pgn_journal.specs.Journal.{IsFinished, entry}
use Rattle.pgn_journal.proofs.PackingLemmas.{next_place, place_bound, place_folds}
use Rattle.pgn_ledger.specs.Places.{most_cells, notes_in, places_from}

-- the place of each, and the end
place_in : (format : Format) (at : ℕ) (txs : List Tx) (k d : ℕ) → k ≤ length txs → get_or (places_from format at txs) k d ≡ fold (after format) at (take k txs)
place_in format at [] zero d h = refl
place_in format at [] (suc k) d h = absurd (omega (arith, h))
place_in format at (tx ∷ txs) zero d h = refl
place_in format at (tx ∷ txs) (suc k) d h = place_in format (after format at tx) txs k d (omega (arith, h))

-- the first few, where there are fewer
take_least : (txs : List Tx) (k : ℕ) → take (min k (length txs)) txs ≡ take k txs
take_least [] zero =
    let none : List Tx = [] in
    let e : min zero (length none) ≡ 0 = omega arith in
    ap (λ (n : ℕ). take n none) e
take_least [] (suc k) =
    let none : List Tx = [] in
    let e : min (suc k) (length none) ≡ 0 = omega arith in
    ap (λ (n : ℕ). take n none) e
take_least (tx ∷ txs) zero =
    let e : min zero (length (tx ∷ txs)) ≡ 0 = omega arith in
    ap (λ (n : ℕ). take n (tx ∷ txs)) e
take_least (tx ∷ txs) (suc k) =
    let e : min (suc k) (length (tx ∷ txs)) ≡ suc (min k (length txs)) = omega arith in
    ap (λ n. take n (tx ∷ txs)) e ∙ ap (λ (ts : List Tx). tx ∷ ts) (take_least txs k)

-- the listed place of a number is the transaction's, or the journal's end
pub place_at : (format : Format) (journal : List Tx) (x d : ℕ) → get_or (places_from format 0 journal) (min (x - FIRST_XID) (length journal)) d ≡ place format journal x
place_at format journal x d =
    place_in format 0 journal (min (x - FIRST_XID) (length journal)) d (omega arith)
    ∙ ap (λ (txs : List Tx). fold (after format) 0 txs) (take_least journal (x - FIRST_XID)) ∙ sym (place_folds format journal x)

-- there is a place for each transaction, and one for the end
pub places_long : (format : Format) (at : ℕ) (txs : List Tx) → length (places_from format at txs) ≡ length txs + 1
places_long format at [] = refl
places_long format at (tx ∷ txs) = omega (arith, places_long format (after format at tx) txs)

-- One transaction more.

-- the places of all transactions, with one more taken from those that are left
pub places_more : (format : Format) (places : List ℕ) (at : ℕ) (txs : List Tx) (k : ℕ) (tx : Tx) (all : List ℕ) → k < length txs → tx ≡ get_or txs k tx → places ++ places_from format at (drop k txs) ≡ all
    → (places ++ at ∷ []) ++ places_from format (after format at tx) (drop (k + 1) txs) ≡ all
places_more format places at txs k tx all lt is h =
    append_assoc places (at ∷ []) (places_from format (after format at tx) (drop (k + 1) txs))
    ∙ ap (λ (t : Tx). places ++ places_from format at (t ∷ drop (k + 1) txs)) is
    ∙ ap (λ (ps : List ℕ). places ++ ps) (sym (at_drop_more (λ (ts : List Tx). places_from format at ts) txs k tx lt)) ∙ h

-- with none left the end comes last
pub places_end : (format : Format) (places : List ℕ) (at : ℕ) (txs : List Tx) (k : ℕ) (all : List ℕ) → length txs ≤ k → places ++ places_from format at (drop k txs) ≡ all → places ++ at ∷ [] ≡ all
places_end format places at txs k all past h = ap (λ (ts : List Tx). places ++ places_from format at ts) (sym (drop_all k txs past)) ∙ h

-- the place after a transaction is that of the next number
pub place_more : (format : Format) (journal : List Tx) (at k : ℕ) (tx : Tx) → k < length journal → tx ≡ get_or journal k tx → at ≡ place format journal (FIRST_XID + k) → after format at tx ≡ place format journal (FIRST_XID + (k + 1))
place_more format journal at k tx lt is here =
    let there : entry journal (FIRST_XID + k) ≡ Some tx = ap (λ (i : ℕ). slice_get journal i) (omega arith) ∙ slice_get_read journal (length journal) k tx refl lt is in
    let next : place format journal (FIRST_XID + k + 1) ≡ after format (place format journal (FIRST_XID + k)) tx = next_place format journal (FIRST_XID + k) tx (omega arith) there in
    ap (λ (a : ℕ). after format a tx) here ∙ sym next ∙ ap (λ (x : ℕ). place format journal x) (omega arith)

-- a transaction has no more notifications than all of them
pub notes_of_one : (txs : List Tx) (k : ℕ) (d : Tx) → k < length txs → length (get_or txs k d).notes ≤ notes_in txs
notes_of_one [] k d lt = absurd (omega (arith, lt))
notes_of_one (tx ∷ txs) zero d lt = omega (arith, sum_by-cons (λ (t : Tx). length t.notes) tx txs)
notes_of_one (tx ∷ txs) (suc k) d lt = omega (arith, sum_by-cons (λ (t : Tx). length t.notes) tx txs, notes_of_one txs k d (omega (arith, lt)))

-- behind a transaction of a journal with few notifications the place is below 2^60
pub place_low : (format : Format) (journal : List Tx) (at k : ℕ) (tx : Tx) → All IsFinished journal → notes_in journal < 2 ^ 40 → k < length journal → tx ≡ get_or journal k tx → at ≡ place format journal (FIRST_XID + k)
    → at + most_cells * length tx.notes < 2 ^ 60
place_low format journal at k tx finished few lt is here =
    let bound : at ≤ 4096 * notes_in journal = omega (arith, here, place_bound format journal (FIRST_XID + k) finished) in
    let one : length tx.notes ≤ notes_in journal = omega (arith, notes_of_one journal k tx lt, ap (λ (t : Tx). length t.notes) is) in
    omega (arith, bound, one, few)

place_fits : (format : Format) (journal : List Tx) (x : ℕ) → All IsFinished journal → notes_in journal < 2 ^ 40 → place format journal x < 2 ^ 53
place_fits format journal x finished few = omega (arith, few, place_bound format journal x finished)

-- all places of a journal with few notifications are below 2^53
pub places_low : (format : Format) (journal : List Tx) → All IsFinished journal → notes_in journal < 2 ^ 40 → All (λ at. at < 2 ^ 53) (places_from format 0 journal)
places_low format journal finished few = λ k d lt.
    let within : k ≤ length journal = omega (arith, lt, places_long format 0 journal) in
    let here : get_or (places_from format 0 journal) k d ≡ place format journal (FIRST_XID + k) =
    place_in format 0 journal k d within ∙ ap (λ (n : ℕ). fold (after format) 0 (take n journal)) (omega arith) ∙ sym (place_folds format journal (FIRST_XID + k)) in
    omega (arith, here, place_fits format journal (FIRST_XID + k) finished few)
