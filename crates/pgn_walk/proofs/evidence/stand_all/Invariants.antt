use Rattle.std.proofs.Common.{drop}
use Rattle.std.specs.Prelude.{flat_map}
use Rattle.pgn_walk.specs.Evidence.{stood_by}
use Rattle.pgn_walk.specs.Pairs.{HasGathered}
use Rattle.pgn_walk.proofs.evidence.stand_all.Given as goal

abbrev pub invariant-loop-item : goal.invariant-loop-item
invariant-loop-item l = HasGathered l.fn.pairs l.pairs (flat_map (stood_by l.session) l.items) (flat_map (stood_by l.session) (drop l.item-index l.items))
