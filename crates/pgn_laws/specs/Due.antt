-- Laws of what is due.
use Rattle.std.specs.Prelude.{◌≡◌, ℕ, ◌≤◌, List, ◌++◌}
use Rattle.pgn_base.specs.declared.limits.TheConstants.{FIRST_XID}
use Rattle.pgn_journal.specs.declared.tx.Tx.{Tx}
use Rattle.pgn_journal.specs.Journal.{next_xid}
use Rattle.pgn_journal.specs.Due.{due}

-- what is due up to n is what is due up to k, and then from k on
abbrev pub DueSplits : Type 0
DueSplits = (journal : List Tx) (m k n db : ℕ) (channels : List (List ℕ)) → FIRST_XID ≤ m → m ≤ k → k ≤ n → n ≤ next_xid journal
    → due journal m n db channels ≡ due journal m k db channels ++ due journal k n db channels

-- a longer journal changes nothing before its new part
abbrev pub DueGrows : Type 0
DueGrows = (journal more : List Tx) (m n db : ℕ) (channels : List (List ℕ)) → n ≤ next_xid journal
    → due (journal ++ more) m n db channels ≡ due journal m n db channels
