use Rattle.std.proofs.Common.{sym, subst, arith}
use Rattle.std.proofs.lemmas.List.Elements.{All-get_or}
use Rattle.pgn_session.specs.Runs.{IsReady}
use Rattle.pgn_session.proofs.together.sleep_on_one.Goals as goal

pub sleep-micros-requires-clause-served : goal.sleep-micros-requires-clause-served
sleep-micros-requires-clause-served g c =
    let Ready = IsReady (g.H.Hub.is_pass c.args.hub.now) (g.H.Hub.shape c.args.hub.now) g.P.PassView.known in
    (subst Ready (sym c.session-item.is) (All-get_or Ready c.args.sessions.now c.loop-session.session-index c.session-item.result (omega arith) c.requires)).served

pub sleep-micros-requires-clause-rested : goal.sleep-micros-requires-clause-rested
sleep-micros-requires-clause-rested g c =
    let Ready = IsReady (g.H.Hub.is_pass c.args.hub.now) (g.H.Hub.shape c.args.hub.now) g.P.PassView.known in
    (subst Ready (sym c.session-item.is) (All-get_or Ready c.args.sessions.now c.loop-session.session-index c.session-item.result (omega arith) c.requires)).rested
