use Rattle.pgn_session.proofs.EndLaws.{finds-some}
use Rattle.pgn_session.proofs.line.find_ends.Goals as goal

pub loop-session-preserved : goal.loop-session-preserved
loop-session-preserved g c =
    finds-some (g.H.Hub.is_pass c.args.hub.now c.loop-session.pass) (g.H.Hub.is_pass c.args.hub.now c.look.new.pass) c.args.plan c.args.first c.loop-session.session c.look.result
    (g.P.PassView.known c.args.pass.now) (g.P.PassView.known c.loop-session.pass) (g.P.PassView.known c.look.new.pass)
    c.if-is_none.ensures c.loop-session.invariant c.look.ensures.own c.loop-session-test.true c.look.ensures.looked
