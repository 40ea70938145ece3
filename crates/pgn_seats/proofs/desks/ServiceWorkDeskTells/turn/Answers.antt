use Rattle.std.proofs.Common.{[]}
use Rattle.std.proofs.lemmas.List.Elements.{All-head}
use Rattle.pgn_outlet.specs.Passes.{knows}
use Rattle.pgn_outlet.specs.Rule.{MayPush}
use Rattle.pgn_seats.specs.declared.desk.Desk.{Desk}
use Rattle.pgn_seats.specs.Workers.{StandsBy}
use Rattle.pgn_seats.proofs.DeskWorkLaws.{part-turned, ready-still}
use Rattle.pgn_seats.proofs.desks.ServiceWorkDeskTells.turn.Goals as goal

pub turn_at-requires-clause-own : goal.turn_at-requires-clause-own
turn_at-requires-clause-own g c = c.requires.own

pub turn_at-requires-clause-may : goal.turn_at-requires-clause-may
turn_at-requires-clause-may g c =
    All-head (λ (d : Desk g.row.P.Denot). MayPush (knows c.args.tells.now.pass) d.session.section.no) c.args.desk.now [] c.requires.may.may

pub turn_at-requires-clause-stands : goal.turn_at-requires-clause-stands
turn_at-requires-clause-stands g c =
    All-head (StandsBy (g.H.Hub.is_pass c.args.self.now.hub.now) (g.H.Hub.shape c.args.self.now.hub.now) g.P.PassView.known c.args.self.now.inboxes.now c.args.tells.now.refused (knows c.args.tells.now.pass)) c.args.desk.now [] c.requires.may.stand

pub returns-clause-took : goal.returns-clause-took
returns-clause-took g c =
    part-turned (g.H.Hub.is_pass c.args.self.now.hub.now) (g.H.Hub.shape c.args.self.now.hub.now) g.P.PassView.known c.args.self.now.inboxes.now c.args.self.now.outbox.now c.args.desk.now c.turn_at.new.desk c.args.tells.now c.turn_at.new.tells c.turn_at.result c.turn_at.ensures.own c.turn_at.ensures.turned

pub returns-clause-ready : goal.returns-clause-ready
returns-clause-ready g c = ready-still c.turn_at.result

pub returns-clause-over : goal.returns-clause-over
returns-clause-over g c = c.turn_at.ensures.turned.ended
