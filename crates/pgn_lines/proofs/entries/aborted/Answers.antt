use Rattle.std.proofs.Common.{codes, sym, ◌∙◌}
use Rattle.pgn_lines.specs.Shown.{IsSession, IsShort, IsXid}
use Rattle.pgn_lines.proofs.LineLaws.{aborted_read, aborted_spelled, behind, follows, long_session, long_short, long_xid}
use Rattle.pgn_lines.proofs.entries.aborted.Goals as goal

pub returns-in_default : goal.returns-in_default
returns-in_default c = λ x s q n h e. c.in_default.ensures _ (sym e ∙ aborted_spelled x s q n)

pub returns-in_default-xid_then : goal.returns-in_default-xid_then
returns-in_default-xid_then c = λ x s q n h e. c.in_default-xid_then.ensures x _ h.0 (follows (codes "xid ") _ _ _ c.in-Some.ensures (sym (aborted_spelled x s q n) ∙ e))

pub returns-in_default-session_then : goal.returns-in_default-session_then
returns-in_default-session_then c = λ x s q n h e.
    c.in_default-session_then.ensures s _ h.1
    (behind IsXid _ (codes "session ") _ _ _ x c.in-Some-xid_then.ensures (long_xid x h.0) (follows (codes "xid ") _ _ _ c.in-Some.ensures (sym (aborted_spelled x s q n) ∙ e)))

pub returns-in_default-short_then : goal.returns-in_default-short_then
returns-in_default-short_then c = λ x s q n h e.
    c.in_default-short_then.ensures q _ h.2
    (behind IsSession _ (codes "abort ") _ _ _ s c.in-Some-session_then.ensures (long_session s h.1)
    (behind IsXid _ (codes "session ") _ _ _ x c.in-Some-xid_then.ensures (long_xid x h.0) (follows (codes "xid ") _ _ _ c.in-Some.ensures (sym (aborted_spelled x s q n) ∙ e))))

pub returns-in_default-short : goal.returns-in_default-short
returns-in_default-short c = λ x s q n h e.
    c.in_default-short.ensures n h.3
    (sym
    (behind IsShort _ (codes "of ") _ _ _ q c.in-Some-short_then.ensures (long_short q h.2)
    (behind IsSession _ (codes "abort ") _ _ _ s c.in-Some-session_then.ensures (long_session s h.1)
    (behind IsXid _ (codes "session ") _ _ _ x c.in-Some-xid_then.ensures (long_xid x h.0) (follows (codes "xid ") _ _ _ c.in-Some.ensures (sym (aborted_spelled x s q n) ∙ e))))))

pub returns : goal.returns
returns c = aborted_read _ _ _ _ _ _ _ _ _ c.in-Some.ensures c.in-Some-xid_then.ensures c.in-Some-session_then.ensures c.in-Some-short_then.ensures c.in-Some-short.ensures
