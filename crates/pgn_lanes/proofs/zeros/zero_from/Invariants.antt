use Rattle.pgn_lanes.specs.Zero.{HasNoZeroBefore}
use Rattle.pgn_lanes.proofs.zeros.zero_from.Given as goal

abbrev pub invariant-loop-at : goal.invariant-loop-at
invariant-loop-at l = HasNoZeroBefore l.at l.bytes
