use Rattle.std.proofs.Common.{refl}
use Rattle.pgn_seats.specs.Workers.{HaveSeats}
use Rattle.pgn_seats.proofs.DeskWorkLaws.{all-ready, part-waited}
use Rattle.pgn_seats.proofs.desks.ServiceWorkDeskTells.wait.Goals as goal

pub wait_behind-requires : goal.wait_behind-requires
unfolding HaveSeats
wait_behind-requires g c = c.requires.may.seats

pub returns-clause-took : goal.returns-clause-took
returns-clause-took g c = part-waited (g.H.Hub.is_pass c.args.self.now.hub.now) (g.H.Hub.shape c.args.self.now.hub.now) g.P.PassView.known c.args.self.now.inboxes.now c.args.self.now.outbox.now c.args.desks.now c.args.desks.now c.args.tells.now c.args.tells.now refl refl c.requires

pub returns-clause-ready : goal.returns-clause-ready
returns-clause-ready g c = all-ready c.args.desks.now
