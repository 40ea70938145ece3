-- Laws of what is due.
use Rattle.std.proofs.Common.{◌≡◌, ℕ, ◌+◌, ◌-◌, ◌≤◌, List, ◌++◌, length, drop, ap, arith}
use Rattle.std.proofs.lemmas.List.{take-append-le}
use Rattle.pgn_journal.specs.declared.tx.Tx.{Tx}
use Rattle.pgn_journal.specs.Due.{due, due_from}

-- what is due up to a number of the journal stays due as it grows
pub due-grows : (journal more : List Tx) (m n db : ℕ) (channels : List (List ℕ)) → n ≤ 3 + length journal → due (journal ++ more) m n db channels ≡ due journal m n db channels
due-grows journal more m n db channels h =
    let fits : n - 3 ≤ length journal = omega arith in
    ap (λ xs. due_from db channels m (drop (m - 3) xs)) (take-append-le (n - 3) journal more fits)
