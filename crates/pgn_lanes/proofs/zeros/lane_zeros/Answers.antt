use Rattle.std.proofs.Common.{eqb, arith, w8}
use Rattle.std.specs.Simd.Lanes.{chunk}
use Rattle.std.proofs.lemmas.Simd.{bitmask_splat, length-chunk}
use Rattle.pgn_lanes.proofs.zeros.lane_zeros.Goals as goal

pub returns : goal.returns
returns c =
    bitmask_splat w8 eqb (chunk c.args.at 16 c.args.bytes.now) 16 0 (length-chunk c.args.at 16 c.args.bytes.now c.requires) (omega arith)
