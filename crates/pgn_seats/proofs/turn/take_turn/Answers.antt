use Rattle.std.proofs.Common.{refl, rules}
use Rattle.pgn_outlet.specs.Passes.{knows}
use Rattle.pgn_seats.proofs.SayLaws.{pushed-same}
use Rattle.pgn_seats.proofs.SeatLaws.{seated-over, seated-serves, served-told}
use Rattle.pgn_seats.proofs.WorkLaws.{client-same}
use Rattle.pgn_seats.proofs.turn.take_turn.Goals as goal

pub serve_next-requires-clause-serves : goal.serve_next-requires-clause-serves
serve_next-requires-clause-serves g c =
    seated-serves (g.H.Hub.is_pass c.args.service.now.hub.now) (g.H.Hub.shape c.args.service.now.hub.now) g.P.PassView.known c.args.service.now.inboxes.now c.args.desk.now (knows c.args.tells.now) (search rules) c.requires.seated

pub returns-in_default-clause-same : goal.returns-in_default-clause-same
returns-in_default-clause-same g c = c.serve_next.ensures.turned.same

pub returns-in_default-clause-alone : goal.returns-in_default-clause-alone
returns-in_default-clause-alone g c = c.serve_next.ensures.turned.alone

pub returns-in_default-clause-seated : goal.returns-in_default-clause-seated
returns-in_default-clause-seated g c = c.serve_next.ensures.turned.seated

pub returns-in_default-clause-over : goal.returns-in_default-clause-over
returns-in_default-clause-over g c = c.serve_next.ensures.turned.over

pub returns-in_default-clause-told : goal.returns-in_default-clause-told
returns-in_default-clause-told g c = c.serve_next.ensures.turned.told

pub returns-in-Over-clause-same : goal.returns-in-Over-clause-same
returns-in-Over-clause-same g c = client-same c.args.desk.now.session c.args.desk.now.session refl

pub returns-in-Over-clause-alone : goal.returns-in-Over-clause-alone
returns-in-Over-clause-alone g c = pushed-same c.args.desk.now.session.section.no (knows c.args.tells.now) (knows c.args.tells.now) refl

pub returns-in-Over-clause-seated : goal.returns-in-Over-clause-seated
returns-in-Over-clause-seated g c = c.requires.seated

pub returns-in-Over-clause-over : goal.returns-in-Over-clause-over
returns-in-Over-clause-over g c = λ e. seated-over (g.H.Hub.is_pass c.args.service.now.hub.now) (g.H.Hub.shape c.args.service.now.hub.now) g.P.PassView.known c.args.service.now.inboxes.now c.args.desk.now (knows c.args.tells.now) c.in-Over.is c.requires.seated

pub returns-in-Over-clause-told : goal.returns-in-Over-clause-told
returns-in-Over-clause-told g c = served-told (g.H.Hub.is_pass c.args.service.now.hub.now) (g.H.Hub.shape c.args.service.now.hub.now) g.P.PassView.known c.args.service.now.inboxes.now c.args.desk.now (knows c.args.tells.now) (seated-over (g.H.Hub.is_pass c.args.service.now.hub.now) (g.H.Hub.shape c.args.service.now.hub.now) g.P.PassView.known c.args.service.now.inboxes.now c.args.desk.now (knows c.args.tells.now) c.in-Over.is c.requires.seated)
