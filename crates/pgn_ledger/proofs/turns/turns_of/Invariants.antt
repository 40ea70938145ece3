use Rattle.std.proofs.Common.{◌≡◌, [], ◌++◌, drop, take}
use Rattle.pgn_ledger.specs.Turns.{AreTurns, ranks_from}
use Rattle.pgn_ledger.proofs.turns.turns_of.Given as goal

abbrev pub invariant-loop-tx : goal.invariant-loop-tx
invariant-loop-tx l = record {
  same : l.ranks.items ++ ranks_from (take l.tx-index l.journal) (drop l.tx-index l.journal) ≡ ranks_from [] l.journal;
  counted : AreTurns (take l.tx-index l.journal) l.counts.items;
}
