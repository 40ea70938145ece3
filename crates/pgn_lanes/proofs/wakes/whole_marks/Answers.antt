use Rattle.std.proofs.Common.{◌≡◌, ℕ, ◌+◌, ◌*◌, ◌≤◌, length, take, ap, ◌∙◌, arith}
use Rattle.std.specs.Simd.Lanes.{mask_l}
use Rattle.pgn_lanes.specs.Behind.{plain_behind}
use Rattle.pgn_lanes.proofs.WakeLaws.{marks_step}
use Rattle.pgn_lanes.proofs.wakes.whole_marks.Goals as goal

pub loop-block-preserved : goal.loop-block-preserved
loop-block-preserved c =
    let at = c.loop-block.block * 8 in
    let ps = c.args.pos.now in
    let ds = c.args.dbs.now in
    let next : at + 8 ≡ (c.loop-block.block + 1) * 8 = omega arith in
    let room : at + 8 ≤ length ps = omega arith in
    marks_step c.args.head c.args.db ps ds at 8 c.loop-block.marks c.lane_marks-lanes.result c.requires.same_length room (omega arith) c.loop-block.invariant c.lane_marks-lanes.ensures
    ∙ ap (λ (n : ℕ). mask_l (plain_behind c.args.head c.args.db (take n ps) (take n ds))) next
