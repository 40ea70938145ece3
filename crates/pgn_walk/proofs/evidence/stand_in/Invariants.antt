use Rattle.std.proofs.Common.{drop}
use Rattle.pgn_walk.specs.Evidence.{stood_in}
use Rattle.pgn_walk.specs.Pairs.{HasGathered}
use Rattle.pgn_walk.proofs.evidence.stand_in.Given as goal

abbrev pub invariant-loop-trace : goal.invariant-loop-trace
invariant-loop-trace l = HasGathered l.fn.pairs l.pairs (stood_in l.traces) (stood_in (drop l.trace-index l.traces))
