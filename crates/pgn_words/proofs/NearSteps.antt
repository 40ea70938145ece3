-- Listeners that are near the end of the journal, as it grows.
use Rattle.std.proofs.Common.{◌≡◌, ◌≢◌, inl, inr, ⊎_elim, ℕ, zero, suc, ◌+◌, ◌-◌, ◌<◌, ◌≤◌, ◌==◌, ◌&&◌, ◌||◌, Bool, true, false, cond, List, [], ◌∷◌, ◌++◌, length, take, drop, Some, slice_get, All, sym, ap, ◌∙◌, refl, subst, arith, true≢false}
use Rattle.std.specs.List.{list_any}
use Rattle.std.proofs.lemmas.List.{length-append}
use Rattle.std.proofs.lemmas.List.Elements.{All-head, All-tail}
use Rattle.std.proofs.lemmas.Option.{none-some, same_Some}
use Rattle.std.proofs.lemmas.Bool.Decides.{nat_tests}
use native.Mathlib.Decide.{ℕ_discrete}
use Rattle.pgn_base.specs.declared.format.Format.{Format}
use Rattle.pgn_journal.specs.declared.tx.Tx.{Tx}
use Rattle.pgn_journal.specs.declared.tx.Fate.{Fate}
use Rattle.pgn_journal.specs.declared.tx.Fate.TheVariants.{Committed, Aborted}
use Rattle.pgn_journal.specs.Journal.{next_xid, entries_between, is_committed, is_committed_in, IsQueued, IsFinished}
use Rattle.pgn_journal.specs.Due.{is_due_to, listens}
use Rattle.pgn_journal.specs.Packing.{place}
use Rattle.pgn_journal.specs.Near.{Near}
use Rattle.pgn_journal.proofs.PackingLemmas.{place_grows, place_rises}
use Rattle.pgn_journal.proofs.NearLaws.{none-within, near-grows, near-itself}
use Rattle.pgn_words.specs.WakeRule.{served, passed, IsServed, IsHeeded}
use Rattle.pgn_words.proofs.LockKept.{some_of}

-- who need not read as far as two numbers need not read as far as smaller ones, nor from a greater mark
pub served_shrinks : (format : Format) (matters : Tx → Bool) (past : List Tx) (m n by upto by' upto' : ℕ) → by' ≤ by → upto' ≤ upto → m ≤ n → IsServed format matters past m by upto → IsServed format matters past n by' upto'
served_shrinks format matters past m n by upto by' upto' less down up h = record {
  nothing_due = none-within matters past (m - 3) (by - 3) (n - 3) (by' - 3) (omega (arith, up)) (omega (arith, less)) h.nothing_due;
  few_pages = let few = h.few_pages in omega (arith, few, place_grows format past upto' upto down, place_grows format past m n up);
}

-- and is near each number that is no greater than both
pub served_near : (format : Format) (matters : Tx → Bool) (past : List Tx) (m by upto x : ℕ) → x ≤ by → x ≤ upto → IsServed format matters past m by upto → Near format matters past m x
served_near format matters past m by upto x low down h =
    let s = served_shrinks format matters past m m by upto x x low down (omega arith) h in record { nothing_due = s.nothing_due; few_pages = s.few_pages }

-- how far a listener was passed by and served is no further than the journal
pub passed_most : (undecided concerned : ℕ → Bool) (fin i : ℕ) → passed undecided concerned fin i ≤ fin
passed_most undecided concerned fin i = by_test (undecided i && concerned i)
  where
    by_test : (b : Bool) → cond b (fin - 1) fin ≤ fin
    by_test true = omega arith
    by_test false = omega arith

pub served_most : (undecided : ℕ → Bool) (fin i : ℕ) → served undecided fin i ≤ fin
served_most undecided fin i = by_test (undecided i)
  where
    by_test : (b : Bool) → cond b (fin - 1) fin ≤ fin
    by_test true = omega arith
    by_test false = omega arith

-- it was passed by of all but the last transaction
pub passed_least : (undecided concerned : ℕ → Bool) (fin i : ℕ) → fin - 1 ≤ passed undecided concerned fin i
passed_least undecided concerned fin i = by_test (undecided i && concerned i)
  where
    by_test : (b : Bool) → fin - 1 ≤ cond b (fin - 1) fin
    by_test true = omega arith
    by_test false = omega arith

-- where the journal has grown by a transaction and the seat is not decided, the listener is heeded as before
pub heeded_later : (format : Format) (matters : Tx → Bool) (past : List Tx) (tx : Tx) (fin : ℕ) (before after old new : ℕ → Bool) (i wake mark : ℕ) (walks : Bool) (ends : ℕ) (owes : Bool) → fin ≡ next_xid past → before i ≡ false → after i ≡ true → new i ≡ true
    → IsHeeded format matters past (passed before old fin i) (served before fin i) wake mark walks ends owes → IsHeeded format matters (past ++ tx ∷ []) (passed after new (fin + 1) i) (served after (fin + 1) i) wake mark walks ends owes
heeded_later format matters past tx fin before after old new i wake mark walks ends owes counted calm waits may h =
    let was : served before fin i ≡ fin = ap (λ b. cond b (fin - 1) fin) calm in
    let went : passed before old fin i ≡ fin = ap (λ b. cond (b && old i) (fin - 1) fin) calm in
    let last : fin + 1 - 1 ≡ fin = omega arith in
    let is : served after (fin + 1) i ≡ fin = ap (λ b. cond b (fin + 1 - 1) (fin + 1)) waits ∙ last in
    let goes : passed after new (fin + 1) i ≡ fin = ap (λ b. cond (b && new i) (fin + 1 - 1) (fin + 1)) waits ∙ ap (λ b. cond b (fin + 1 - 1) (fin + 1)) may ∙ last in
    let near : (m : ℕ) → IsServed format matters past m (passed before old fin i) (served before fin i) → IsServed format matters (past ++ tx ∷ []) m (passed after new (fin + 1) i) (served after (fin + 1) i) =
    λ m n. subst (λ (x : ℕ). IsServed format matters (past ++ tx ∷ []) m x (served after (fin + 1) i)) (sym goes)
    (subst (λ (x : ℕ). IsServed format matters (past ++ tx ∷ []) m fin x) (sym is)
    (let now = near-grows format matters past (tx ∷ []) m fin (omega (arith, counted)) (served_near format matters past m (passed before old fin i) (served before fin i) fin (omega (arith, went)) (omega (arith, was)) n) in
    record { nothing_due = now.nothing_due; few_pages = now.few_pages })) in record {
      still = ⊎_elim (λ set. inl set) (λ r. ⊎_elim (λ o. inr (inl o)) (λ n. inr (inr (near mark n))) r) h.still;
      walked = λ walk. ⊎_elim (λ set. inl set) (λ n. inr (near ends n)) (h.walked walk);
    }

-- nobody need read up to its own mark
pub near_itself_served : (format : Format) (matters : Tx → Bool) (past : List Tx) (undecided concerned : ℕ → Bool) (fin i m : ℕ) → fin ≤ m → IsServed format matters past m (passed undecided concerned fin i) (served undecided fin i)
near_itself_served format matters past undecided concerned fin i m low =
    let near = near-itself format matters past m fin low in
    served_shrinks format matters past m m fin fin (passed undecided concerned fin i) (served undecided fin i) (passed_most undecided concerned fin i) (served_most undecided fin i) (omega arith) (record { nothing_due = near.nothing_due; few_pages = near.few_pages })

-- none of a part of a list
abbrev NoneIn : (Tx → Bool) → List Tx → ℕ → ℕ → Type 0
NoneIn p xs a b = (k : ℕ) (tx : Tx) → a ≤ k → k < b → slice_get xs k ≡ Some tx → p tx ≡ false

first_no : (a b : Bool) → (a || b) ≡ false → a ≡ false
first_no true b h = h
first_no false b h = refl

rest_no : (a b : Bool) → (a || b) ≡ false → b ≡ false
rest_no true b h = absurd (true≢false h)
rest_no false b h = h

both_no : (a b : Bool) → a ≡ false → b ≡ false → (a || b) ≡ false
both_no a b x y = ap (λ c. c || b) x ∙ y

none_in : (p : Tx → Bool) (xs : List Tx) (a b : ℕ) → list_any p (drop a (take b xs)) ≡ false → NoneIn p xs a b
none_in p [] a b h k tx low within there = absurd (none-some tx there)
none_in p (x ∷ xs) a zero h k tx low within there = absurd (omega (arith, within))
none_in p (x ∷ xs) zero (suc b) h zero tx low within there = let same : x ≡ tx = same_Some x tx there in subst (λ (t : Tx). p t ≡ false) same (first_no (p x) (list_any p (take b xs)) h)
none_in p (x ∷ xs) zero (suc b) h (suc k) tx low within there = none_in p xs zero b (rest_no (p x) (list_any p (take b xs)) h) k tx (omega arith) (omega (arith, within)) there
none_in p (x ∷ xs) (suc a) (suc b) h zero tx low within there = absurd (omega (arith, low))
none_in p (x ∷ xs) (suc a) (suc b) h (suc k) tx low within there = none_in p xs a b h k tx (omega (arith, low)) (omega (arith, within)) there

any_none : (p : Tx → Bool) (xs : List Tx) (a b : ℕ) → NoneIn p xs a b → list_any p (drop a (take b xs)) ≡ false
any_none p [] zero zero h = refl
any_none p [] zero (suc b) h = refl
any_none p [] (suc a) zero h = refl
any_none p [] (suc a) (suc b) h = refl
any_none p (x ∷ xs) zero zero h = refl
any_none p (x ∷ xs) (suc a) zero h = refl
any_none p (x ∷ xs) zero (suc b) h =
    both_no (p x) (list_any p (take b xs)) (h zero x (omega arith) (omega arith) refl)
    (any_none p xs zero b (λ k tx low within there. h (suc k) tx (omega arith) (omega (arith, within)) there))
any_none p (x ∷ xs) (suc a) (suc b) h = any_none p xs a b (λ k tx low within there. h (suc k) tx (omega (arith, low)) (omega (arith, within)) there)

-- a finished transaction that takes no cells has not committed
no_commit : (format : Format) (db : ℕ) (past : List Tx) (k : ℕ) (tx : Tx) → IsFinished tx → slice_get past k ≡ Some tx → place format past (3 + k) ≡ place format past (3 + k + 1) → is_committed_in db tx ≡ false
no_commit format db past k tx finished there flat = by_fate tx.fate refl
  where
    by_fate : (fate : Fate) → tx.fate ≡ fate → is_committed_in db tx ≡ false
    by_fate Aborted e = ap (λ f. is_committed f && tx.db == db) e
    by_fate Committed e =
        let queued : IsQueued Committed tx.queued (length tx.notes) = subst (λ (f : Fate). IsQueued f tx.queued (length tx.notes)) e finished.queueing in
        let some = some_of tx.notes finished.some in
        let index : 3 + k - 3 ≡ k = omega arith in
        let rises = place_rises format past (3 + k) tx (omega arith) (ap (slice_get past) index ∙ there) (omega (arith, queued, some)) finished.some in
        absurd (omega (arith, rises, flat))

-- between two marks at one place nothing was committed
pub none_between : (format : Format) (db : ℕ) (set : List (List ℕ)) (past : List Tx) (m x : ℕ) → All IsFinished past → 3 ≤ m → place format past m ≡ place format past x → Near format (is_due_to db set) past m x
none_between format db set past m x finished first flat = record {
  nothing_due = any_none (is_due_to db set) past (m - 3) (x - 3) (λ k tx low within there.
      let before = place_grows format past m (3 + k) (omega (arith, low, first)) in
      let step = place_grows format past (3 + k) (3 + k + 1) (omega arith) in
      let after = place_grows format past (3 + k + 1) x (omega (arith, within)) in
      ap (λ b. b && list_any (listens set) tx.notes) (no_commit format db past k tx (All_at past k tx finished there) there (omega (arith, before, step, after, flat))));
  few_pages = omega (arith, flat);
}
  where
    All_at : (txs : List Tx) (k : ℕ) (tx : Tx) → All IsFinished txs → slice_get txs k ≡ Some tx → IsFinished tx
    All_at [] k tx all there = absurd (none-some tx there)
    All_at (t ∷ txs) zero tx all there = subst (λ (y : Tx). IsFinished y) (same_Some t tx there) (All-head IsFinished t txs all)
    All_at (t ∷ txs) (suc k) tx all there = All_at txs k tx (All-tail IsFinished t txs all) there

-- what was not due before the last transaction is not due with it, where that one does not matter
pub nothing_more : (matters : Tx → Bool) (past before : List Tx) (last : Tx) (m fin : ℕ) → fin ≡ next_xid past → past ≡ before ++ last ∷ [] → matters last ≡ false
    → list_any matters (entries_between past m (fin - 1)) ≡ false → list_any matters (entries_between past m fin) ≡ false
nothing_more matters past before last m fin counted ends none_last none = any_none matters past (m - 3) (fin - 3) (λ k tx low within there. by_place k tx low within there (ℕ_discrete k (length before)))
  where
    size : length past ≡ length before + 1
    size = ap length ends ∙ length-append before (last ∷ [])

    last_one : (txs : List Tx) (tx : Tx) → slice_get (txs ++ last ∷ []) (length txs) ≡ Some tx → last ≡ tx
    last_one [] tx e = same_Some last tx e
    last_one (t ∷ txs) tx e = last_one txs tx e

    by_place : (k : ℕ) (tx : Tx) → m - 3 ≤ k → k < fin - 3 → slice_get past k ≡ Some tx → Dec (k ≡ length before) → matters tx ≡ false
    by_place k tx low within there (yes e) =
        let is : last ≡ tx = last_one before tx (ap (λ txs. slice_get txs (length before)) (sym ends) ∙ ap (slice_get past) (sym e) ∙ there) in
        subst (λ (t : Tx). matters t ≡ false) is none_last
    by_place k tx low within there (no ne) = none_in matters past (m - 3) (fin - 1 - 3) none k tx low (omega (arith, within, counted, size, ne)) there

and_no : (b : Bool) → (b && false) ≡ false
and_no true = refl
and_no false = refl

-- a transaction of another database is due to nobody
pub not_due_elsewhere : (db : ℕ) (set : List (List ℕ)) (tx : Tx) → tx.db ≢ db → is_due_to db set tx ≡ false
not_due_elsewhere db set tx other =
    let differs : tx.db == db ≡ false = grind (arith, nat_tests, other) in
    ap (λ b. (is_committed tx.fate && b) && list_any (listens set) tx.notes) differs ∙ ap (λ b. b && list_any (listens set) tx.notes) (and_no (is_committed tx.fate))

-- nor is one with no notification that it listens to
pub not_due_unheard : (db : ℕ) (set : List (List ℕ)) (tx : Tx) → list_any (listens set) tx.notes ≡ false → is_due_to db set tx ≡ false
not_due_unheard db set tx none = ap (λ b. is_committed_in db tx && b) none ∙ and_no (is_committed_in db tx)
