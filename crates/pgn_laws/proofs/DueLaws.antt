-- Laws of what is due.
use Rattle.std.proofs.Common.{◌≡◌, ℕ, ◌+◌, ◌-◌, ◌≤◌, List, [], ◌∷◌, ◌++◌, length, take, drop, sym, ap, ◌∙◌, append_assoc, add-zero, arith, take-append-drop, take-take, length-take, length-drop}
use Rattle.std.proofs.lemmas.List.{drop-append-le}
use Rattle.pgn_journal.specs.declared.tx.Tx.{Tx}
use Rattle.pgn_journal.specs.Journal.{entries_between}
use Rattle.pgn_journal.specs.Due.{due, due_from, delivered_by}
use Rattle.pgn_journal.proofs.DueLaws.{due-grows}

-- what two lists give, one after the other
pub due_from-append : (db : ℕ) (channels : List (List ℕ)) (x : ℕ) (xs ys : List Tx) → due_from db channels x (xs ++ ys) ≡ due_from db channels x xs ++ due_from db channels (x + length xs) ys
due_from-append db channels x [] ys = ap (λ y. due_from db channels y ys) (sym (add-zero x))
due_from-append db channels x (tx ∷ xs) ys =
    let step : (x + 1) + length xs ≡ x + length (tx ∷ xs) = omega arith in
    let rest = due_from-append db channels (x + 1) xs ys ∙ ap (λ y. due_from db channels (x + 1) xs ++ due_from db channels y ys) step in
    ap (λ ds. delivered_by db channels x tx ++ ds) rest ∙ sym (append_assoc (delivered_by db channels x tx) (due_from db channels (x + 1) xs) (due_from db channels (x + length (tx ∷ xs)) ys))

-- a part of a list is a prefix of it and then the rest
parts : {A : Type 0} (xs : List A) (m k n : ℕ) → m ≤ k → k ≤ n → n ≤ length xs → drop m (take n xs) ≡ drop m (take k xs) ++ drop k (take n xs)
parts xs m k n a b c =
    let fits : m ≤ length (take k (take n xs)) = simp length-take (omega arith) in
    let short : take k (take n xs) ≡ take k xs = take-take k n xs b in
    ap (drop m) (sym (take-append-drop k (take n xs))) ∙ drop-append-le m (take k (take n xs)) (drop k (take n xs)) fits
    ∙ ap (λ ys. drop m ys ++ drop k (take n xs)) short

pub due-splits : (journal : List Tx) (m k n db : ℕ) (channels : List (List ℕ)) → 3 ≤ m → m ≤ k → k ≤ n → n ≤ 3 + length journal
    → due journal m n db channels ≡ due journal m k db channels ++ due journal k n db channels
due-splits journal m k n db channels a b c d =
    let cut : entries_between journal m n ≡ entries_between journal m k ++ entries_between journal k n = parts journal (m - 3) (k - 3) (n - 3) (omega arith) (omega arith) (omega arith) in
    let len : m + length (entries_between journal m k) ≡ k = simp (length-drop, length-take) (omega arith) in
    ap (due_from db channels m) cut ∙ due_from-append db channels m (entries_between journal m k) (entries_between journal k n)
    ∙ ap (λ y. due_from db channels m (entries_between journal m k) ++ due_from db channels y (entries_between journal k n)) len

-- what is due in a longer journal, and in two steps
pub ruleset due_laws = (due-grows, due-splits)
