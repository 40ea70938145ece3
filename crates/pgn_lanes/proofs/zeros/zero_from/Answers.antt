use Rattle.std.proofs.Common.{ap, arith}
use Rattle.pgn_lanes.specs.Zero.{is_zero}
use Rattle.pgn_lanes.proofs.ZeroLaws.{zero_at, zero_none}
use Rattle.pgn_lanes.proofs.zeros.zero_from.Goals as goal

pub returns-then-bytes-at-eq0 : goal.returns-then-bytes-at-eq0
returns-then-bytes-at-eq0 c = zero_at c.args.bytes.now c.loop-at.at (omega arith) c.loop-at.invariant (ap is_zero c.if-bytes-at-eq0.true)

pub returns : goal.returns
returns c = zero_none c.args.bytes.now (λ k h. c.loop-at.invariant k (omega arith))
