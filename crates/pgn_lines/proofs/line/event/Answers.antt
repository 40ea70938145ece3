use Rattle.std.proofs.Common.{rules, ◌∙◌}
use Rattle.pgn_lines.proofs.FamilyLaws.{no_event}
use Rattle.pgn_lines.proofs.LineLaws.{full_spelled}
use Rattle.pgn_lines.proofs.line.event.Goals as goal

pub returns-in-Some-full_of : goal.returns-in-Some-full_of
returns-in-Some-full_of c = (c.in-Some-full_of.ensures.0, full_spelled c.in-Some-full_of.full ∙ c.in-Some-full_of.ensures.1)

pub returns-in_err-looks : goal.returns-in_err-looks
returns-in_err-looks c =
    rw c.from_residual.ensures
    (no_event c.args.line.now c.in_default.ensures c.in_default-two_xids.ensures c.in_default-two_xids-2.ensures c.in_default-full_of.ensures (search rules) c.in_default-measured.ensures
    c.in_default-one_xid.ensures c.in_default-one_xid-2.ensures c.in_err-looks.ensures)
