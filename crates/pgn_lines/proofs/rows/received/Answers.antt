use Rattle.std.proofs.Common.{sym, ◌∙◌}
use Rattle.pgn_lines.proofs.LineLaws.{delivery_spelled, none_read, received_shown, some_read}
use Rattle.pgn_lines.proofs.rows.received.Goals as goal

pub returns-in_default : goal.returns-in_default
returns-in_default c = λ d h e. c.in_default.ensures d.xid d.pid _ h.0 h.1 (sym (delivery_spelled d) ∙ e)

pub returns-in_default-2 : goal.returns-in_default-2
returns-in_default-2 c = λ d h e.
    none_read _ _ _ c.in_ok-note.ensures c.in_default-2.is d.note h.2 (c.in-Some.ensures.alone d.xid d.pid _ h.0 h.1 (sym (delivery_spelled d) ∙ e)).2

pub returns : goal.returns
returns c = received_shown _ _ _ _ c.in-Some-2.note c.in-Some.ensures (some_read _ _ _ _ c.in_ok-note.ensures c.in-Some-2.is)
