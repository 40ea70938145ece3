use Rattle.std.proofs.Common.{◌≡◌, ◌≤◌, ◌+◌, drop}
use Rattle.std.specs.Prelude.{count_by}
use Rattle.pgn_journal.specs.Journal.{is_committed}
use Rattle.pgn_drill.proofs.counts.committed.Given as goal

abbrev pub invariant-loop-tx : goal.invariant-loop-tx
invariant-loop-tx l = (l.count ≤ l.tx-index) × (l.count + count_by (λ tx. is_committed tx.fate) (drop l.tx-index l.journal) ≡ count_by (λ tx. is_committed tx.fate) l.journal)
