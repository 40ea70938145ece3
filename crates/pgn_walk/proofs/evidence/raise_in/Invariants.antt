use Rattle.std.proofs.Common.{drop}
use Rattle.pgn_reading.specs.Shown.{raised_in}
use Rattle.pgn_walk.specs.Pairs.{HasGathered}
use Rattle.pgn_walk.proofs.evidence.raise_in.Given as goal

abbrev pub invariant-loop-at : goal.invariant-loop-at
invariant-loop-at l = HasGathered l.fn.pairs l.pairs (raised_in l.sections l.traces) (raised_in (drop l.at l.sections) (drop l.at l.traces))
