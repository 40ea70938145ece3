use Rattle.pgn_session.proofs.OpenLaws.{quit-unread}
use Rattle.pgn_session.proofs.OpenQuitLaws.{quit-taken}
use Rattle.pgn_wire.proofs.TakenLaws.{on_err, quit-is-silent, quit-refused, quit-read-refused}
use Rattle.pgn_wire.proofs.quitting.quit.Goals as goal

pub step-requires-clause-read_first : goal.step-requires-clause-read_first
step-requires-clause-read_first g c first = absurd (quit-unread c.args.session.now c.requires.between first)

pub returns-in_err-_step-clause-stopped : goal.returns-in_err-_step-clause-stopped
returns-in_err-_step-clause-stopped g c =
    let shape = g.H.Hub.shape c.args.hub.now in
    on_err c.from_residual.result _
    (quit-refused shape g.P.PassView.known c.args.session.now c.step.new.self c.step.ensures.same c.in_err-_step.ensures.refused c.in_err-_step.ensures.unshown)

pub returns-in_err-_done-clause-stopped : goal.returns-in_err-_done-clause-stopped
returns-in_err-_done-clause-stopped g c =
    let shape = g.H.Hub.shape c.args.hub.now in
    on_err c.from_residual-in_err-_done.result _
    (quit-read-refused shape g.P.PassView.known c.args.session.now c.step.new.self c.idle.new.self c.in_ok-_step._step c.requires.between c.step.ensures.same c.in_ok-_step.ensures.moved c.idle.ensures.same
    c.in_err-_done.ensures.unshown c.in_err-_done.ensures.refused)

pub returns-clause-over : goal.returns-clause-over
returns-clause-over g c =
    let shape = g.H.Hub.shape c.args.hub.now in
    (quit-taken shape g.P.PassView.known c.args.session.now c.step.new.self c.idle.new.self c.in_ok-_step._step c.in_ok-_done._done c.requires.between c.in_ok-_step.ensures.moved c.idle.ensures.same c.in_ok-_done.ensures.idled).over

pub returns-clause-silent : goal.returns-clause-silent
returns-clause-silent g c =
    let shape = g.H.Hub.shape c.args.hub.now in
    quit-is-silent shape g.P.PassView.known c.args.session.now c.step.new.self c.idle.new.self c.in_ok-_step._step c.in_ok-_done._done c.requires.between c.requires.rested c.step.ensures.same c.in_ok-_step.ensures.moved
    c.idle.ensures.same c.in_ok-_done.ensures.idled

pub returns-clause-left : goal.returns-clause-left
returns-clause-left g c =
    let shape = g.H.Hub.shape c.args.hub.now in
    (quit-taken shape g.P.PassView.known c.args.session.now c.step.new.self c.idle.new.self c.in_ok-_step._step c.in_ok-_done._done c.requires.between c.in_ok-_step.ensures.moved c.idle.ensures.same c.in_ok-_done.ensures.idled).left
