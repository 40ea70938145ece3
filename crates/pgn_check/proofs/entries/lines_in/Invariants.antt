use Rattle.std.proofs.Common.{◌≡◌, ◌+◌, drop}
use Rattle.pgn_check.specs.Entries.{lines_in}
use Rattle.pgn_check.proofs.entries.lines_in.Given as goal

abbrev pub invariant-loop-tx : goal.invariant-loop-tx
invariant-loop-tx l = l.lines + lines_in (drop l.tx-index l.journal) ≡ lines_in l.journal
