use Rattle.std.proofs.Common.{◌+◌, ◌*◌, ◌≤◌, length, sym, ◌∙◌, ⊎_elim, arith}
use Rattle.std.proofs.lemmas.Simd.{none_from_empty_mask}
use Rattle.std.proofs.lemmas.Bool.{cases_lt}
use Rattle.pgn_lanes.specs.Zero.{is_zero}
use Rattle.pgn_lanes.proofs.ZeroLaws.{zero_in_mask, zero_is_first}
use Rattle.pgn_lanes.proofs.zeros.first_zero.Goals as goal

pub loop-block-preserved : goal.loop-block-preserved
loop-block-preserved c =
    let at = c.loop-block.block * 16 in
    let room : at + 16 ≤ length c.args.bytes.now = omega arith in
    λ k h.
    ⊎_elim (λ l. c.loop-block.invariant k l) (λ ge. none_from_empty_mask is_zero c.args.bytes.now at 16 0 room (sym c.lane_zeros-zeros.ensures ∙ c.if-zeros-ne0.false) k ge (omega arith)) (cases_lt k at)

pub returns-then-zeros-ne0 : goal.returns-then-zeros-ne0
returns-then-zeros-ne0 c =
    let bytes = c.args.bytes.now in
    let found = zero_in_mask bytes (c.loop-block.block * 16) 16 c.lane_zeros-zeros.result (omega arith) c.lane_zeros-zeros.ensures (omega (arith, c.if-zeros-ne0.true)) (omega arith) c.loop-block.invariant in
    record { plain = found; first = found ∙ zero_is_first bytes }

pub returns-clause-first : goal.returns-clause-first
returns-clause-first c = c.zero_from.ensures ∙ zero_is_first c.args.bytes.now
