use Rattle.std.proofs.Common.{codes, sym, ◌∙◌}
use Rattle.pgn_lines.specs.Shown.{IsXid}
use Rattle.pgn_lines.proofs.LineLaws.{behind, follows, long_xid, measured_read, measured_spelled}
use Rattle.pgn_lines.proofs.events.measured.Goals as goal

pub returns-in_default : goal.returns-in_default
returns-in_default c = λ a f s h e. c.in_default.ensures _ (sym e ∙ measured_spelled a f s)

pub returns-in_default-xid_then : goal.returns-in_default-xid_then
returns-in_default-xid_then c = λ a f s h e. c.in_default-xid_then.ensures a _ h.0 (follows (codes "+usage ") _ _ _ c.in-Some.ensures (sym (measured_spelled a f s) ∙ e))

pub returns-in_default-xid_then-2 : goal.returns-in_default-xid_then-2
returns-in_default-xid_then-2 c = λ a f s h e.
    c.in_default-xid_then-2.ensures f _ h.1
    (behind IsXid _ (codes "floor ") _ _ _ a c.in-Some-xid_then.ensures (long_xid a h.0) (follows (codes "+usage ") _ _ _ c.in-Some.ensures (sym (measured_spelled a f s) ∙ e)))

pub returns-in_default-holder : goal.returns-in_default-holder
returns-in_default-holder c = λ a f s h e.
    c.in_default-holder.ensures s h.2
    (sym
    (behind IsXid _ (codes "holder ") _ _ _ f c.in-Some-xid_then-2.ensures (long_xid f h.1)
    (behind IsXid _ (codes "floor ") _ _ _ a c.in-Some-xid_then.ensures (long_xid a h.0) (follows (codes "+usage ") _ _ _ c.in-Some.ensures (sym (measured_spelled a f s) ∙ e)))))

pub returns : goal.returns
returns c = measured_read _ _ _ _ _ _ _ c.in-Some.ensures c.in-Some-xid_then.ensures c.in-Some-xid_then-2.ensures c.in-Some-holder.ensures
