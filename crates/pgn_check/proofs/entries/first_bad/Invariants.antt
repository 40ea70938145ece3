use Rattle.std.proofs.Common.{◌≡◌, ◌+◌, drop}
use Rattle.pgn_check.specs.Entries.{first_bad_from, lines_in}
use Rattle.pgn_check.proofs.entries.first_bad.Given as goal

abbrev pub invariant-loop-tx : goal.invariant-loop-tx
invariant-loop-tx l = record {
  same : first_bad_from l.sections l.number (drop l.tx-index l.journal) ≡ first_bad_from l.sections 2 l.journal;
  counted : l.number + lines_in (drop l.tx-index l.journal) ≡ 2 + lines_in l.journal;
}
