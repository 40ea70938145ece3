use Rattle.std.proofs.Common.{◌≡◌, ◌*◌, take, length}
use Rattle.pgn_lanes.specs.Least.{least_with}
use Rattle.pgn_lanes.proofs.minimum.least_lanes.Given as goal

abbrev pub invariant-loop-block : goal.invariant-loop-block
invariant-loop-block l = (length l.lanes ≡ 8) × (least_with l.start l.lanes ≡ least_with l.start (take (l.block * 8) l.words))
