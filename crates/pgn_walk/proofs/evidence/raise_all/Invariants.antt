use Rattle.std.proofs.Common.{◌≤◌, None, drop}
use Rattle.pgn_reading.specs.Shown.{raised_from}
use Rattle.pgn_walk.specs.Pairs.{HasGathered}
use Rattle.pgn_walk.proofs.evidence.raise_all.Given as goal

abbrev pub invariant-loop-item : goal.invariant-loop-item
invariant-loop-item l = record {
  gathered : HasGathered l.fn.pairs l.pairs (raised_from None l.lines l.items) (raised_from l.flag (drop l.next l.lines) (drop l.item-index l.items));
  few : l.next ≤ l.item-index;
}
