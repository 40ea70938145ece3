use Rattle.std.proofs.Common.{codes, sym, ◌∙◌}
use Rattle.pgn_lines.specs.Shown.{IsSession, IsXid}
use Rattle.pgn_lines.proofs.LineLaws.{behind, committed_read, committed_spelled, follows, long_session, long_xid}
use Rattle.pgn_lines.proofs.entries.committed.Goals as goal

pub returns-in_default : goal.returns-in_default
returns-in_default c = λ x s n h e. c.in_default.ensures _ (sym e ∙ committed_spelled x s n)

pub returns-in_default-xid_then : goal.returns-in_default-xid_then
returns-in_default-xid_then c = λ x s n h e. c.in_default-xid_then.ensures x _ h.0 (follows (codes "xid ") _ _ _ c.in-Some.ensures (sym (committed_spelled x s n) ∙ e))

pub returns-in_default-session_then : goal.returns-in_default-session_then
returns-in_default-session_then c = λ x s n h e.
    c.in_default-session_then.ensures s _ h.1
    (behind IsXid _ (codes "session ") _ _ _ x c.in-Some-xid_then.ensures (long_xid x h.0) (follows (codes "xid ") _ _ _ c.in-Some.ensures (sym (committed_spelled x s n) ∙ e)))

pub returns-in_default-short : goal.returns-in_default-short
returns-in_default-short c = λ x s n h e.
    c.in_default-short.ensures n h.2
    (sym
    (behind IsSession _ (codes "commit ") _ _ _ s c.in-Some-session_then.ensures (long_session s h.1)
    (behind IsXid _ (codes "session ") _ _ _ x c.in-Some-xid_then.ensures (long_xid x h.0) (follows (codes "xid ") _ _ _ c.in-Some.ensures (sym (committed_spelled x s n) ∙ e)))))

pub returns : goal.returns
returns c = committed_read _ _ _ _ _ _ _ c.in-Some.ensures c.in-Some-xid_then.ensures c.in-Some-session_then.ensures c.in-Some-short.ensures
