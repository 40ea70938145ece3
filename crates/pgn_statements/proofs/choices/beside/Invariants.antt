use Rattle.std.proofs.Common.{◌≡◌, map, length, true}
use Rattle.pgn_statements.specs.Choices.{are_short, beside}
use Rattle.pgn_statements.proofs.choices.beside.Given as goal

abbrev pub invariant-loop-rows : goal.invariant-loop-rows
invariant-loop-rows l = record {
  value : beside l.cased (map (λ row. (row.0.now, row.1.now)) l.rows) l.bytes ≡ beside l.cased (map (λ row. (row.0.now, row.1.now)) l.initial.rows) l.bytes;
  short : are_short (map (λ row. (row.0.now, row.1.now)) l.rows) ≡ true;
}

abbrev pub decreases-loop-rows : goal.decreases-loop-rows
decreases-loop-rows l = length l.rows
