use Rattle.std.proofs.Common.{refl}
use Rattle.pgn_seats.proofs.DeskWorkLaws.{part-ended}
use Rattle.pgn_seats.proofs.desks.ServiceWorkDeskTells.end.Goals as goal

pub returns : goal.returns
returns g c = λ old taken.
    part-ended (g.H.Hub.is_pass c.args.self.now.hub.now) (g.H.Hub.shape c.args.self.now.hub.now) g.P.PassView.known c.args.self.now.inboxes.now c.args.self.now.outbox.now old c.args.desks.now c.args.desks.now c.args.tells.now c.args.tells.now c.args.rounds c.end_desks.result taken refl refl c.end_desks.ensures
