use Rattle.pgn_outlet.specs.Passes.{knows}
use Rattle.pgn_service.proofs.ArmLaws.{nothing-served}
use Rattle.pgn_service.proofs.arms.serve_where_met.Goals as goal

pub returns-then-not-expects-clause-served : goal.returns-then-not-expects-clause-served
returns-then-not-expects-clause-served g c =
    nothing-served (g.H.Hub.is_pass c.args.hall.now.hub.now) (g.H.Hub.shape c.args.hall.now.hub.now) g.P.PassView.known c.args.hall.now.inboxes.now c.args.desks.now (knows c.args.tells.now.pass) _ c.requires.may
