use Rattle.std.proofs.Common.{◌*◌}
use Rattle.pgn_lanes.specs.Zero.{HasNoZeroBefore}
use Rattle.pgn_lanes.proofs.zeros.first_zero.Given as goal

abbrev pub invariant-loop-block : goal.invariant-loop-block
invariant-loop-block l = HasNoZeroBefore (l.block * 16) l.bytes
