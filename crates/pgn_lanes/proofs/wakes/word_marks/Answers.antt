use Rattle.std.proofs.Common.{◌∙◌, arith}
use Rattle.pgn_lanes.proofs.WakeLaws.{marks_step, marks_one}
use Rattle.pgn_lanes.proofs.wakes.word_marks.Goals as goal

pub loop-at-preserved : goal.loop-at-preserved
loop-at-preserved c =
    let ps = c.args.pos.now in
    let ds = c.args.dbs.now in
    let at = c.loop-at.at in
    marks_step c.args.head c.args.db ps ds at 1 c.loop-at.marks c.from.result c.requires.same_length (omega arith) (omega arith) c.loop-at.invariant
    (c.from.ensures ∙ marks_one c.args.head c.args.db ps ds at c.needs_wake.result (omega arith) (omega arith) c.needs_wake.ensures)
