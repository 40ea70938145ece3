use Rattle.std.proofs.Common.{[], sym, ◌∙◌}
use Rattle.pgn_lines.specs.Shown.{IsXid}
use Rattle.pgn_lines.proofs.LineLaws.{behind, follows, long_xid, two_spelled, xids_read}
use Rattle.pgn_lines.proofs.fields.two_xids.Goals as goal

pub returns-in_default : goal.returns-in_default
returns-in_default c = λ a b h k e. c.in_default.ensures _ (sym e ∙ two_spelled c.args.start.now a b)

pub returns-in_default-xid_then : goal.returns-in_default-xid_then
returns-in_default-xid_then c = λ a b h k e. c.in_default-xid_then.ensures a _ h (follows c.args.start.now _ _ _ c.in-Some.ensures (sym (two_spelled c.args.start.now a b) ∙ e))

pub returns-in_default-xid : goal.returns-in_default-xid
returns-in_default-xid c = λ a b h k e.
    c.in_default-xid.ensures b k
    (sym (behind IsXid _ [] _ _ _ a c.in-Some-xid_then.ensures (long_xid a h) (follows c.args.start.now _ _ _ c.in-Some.ensures (sym (two_spelled c.args.start.now a b) ∙ e))))

pub returns : goal.returns
returns c = xids_read _ _ _ _ _ _ c.in-Some.ensures c.in-Some-xid_then.ensures c.in-Some-xid.ensures
