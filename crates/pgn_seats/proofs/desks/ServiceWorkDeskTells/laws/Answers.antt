use Rattle.pgn_seats.proofs.DeskWorkLaws.{begin-halves, goes-again, goes-behind, goes-begun, goes-front, gone-both, gone-more, gone-none, halves-served, neither-served}
use Rattle.pgn_seats.proofs.desks.ServiceWorkDeskTells.laws.Goals as goal

pub returns-clause-goes_begun : goal.returns-clause-goes_begun
returns-clause-goes_begun g c =
    let s = c.args.self.now in
    goes-begun (g.H.Hub.is_pass s.hub.now) (g.H.Hub.shape s.hub.now) g.P.PassView.known s.inboxes.now s.outbox.now (g.met.H.Hub.seated s.hub.now)

pub returns-clause-took_none : goal.returns-clause-took_none
returns-clause-took_none g c =
    let s = c.args.self.now in
    gone-none (g.H.Hub.is_pass s.hub.now) (g.H.Hub.shape s.hub.now) g.P.PassView.known s.inboxes.now s.outbox.now

pub returns-clause-took_more : goal.returns-clause-took_more
returns-clause-took_more g c =
    let s = c.args.self.now in
    gone-more (g.H.Hub.is_pass s.hub.now) (g.H.Hub.shape s.hub.now) g.P.PassView.known s.inboxes.now s.outbox.now

pub returns-clause-goes_on : goal.returns-clause-goes_on
returns-clause-goes_on g c =
    let s = c.args.self.now in
    goes-again (g.H.Hub.is_pass s.hub.now) (g.H.Hub.shape s.hub.now) g.P.PassView.known s.inboxes.now s.outbox.now

pub returns-clause-goes_front : goal.returns-clause-goes_front
returns-clause-goes_front g c =
    let s = c.args.self.now in
    goes-front (g.H.Hub.is_pass s.hub.now) (g.H.Hub.shape s.hub.now) g.P.PassView.known s.inboxes.now s.outbox.now

pub returns-clause-goes_behind : goal.returns-clause-goes_behind
returns-clause-goes_behind g c =
    let s = c.args.self.now in
    goes-behind (g.H.Hub.is_pass s.hub.now) (g.H.Hub.shape s.hub.now) g.P.PassView.known s.inboxes.now s.outbox.now

pub returns-clause-took_both : goal.returns-clause-took_both
returns-clause-took_both g c =
    let s = c.args.self.now in
    gone-both (g.H.Hub.is_pass s.hub.now) (g.H.Hub.shape s.hub.now) g.P.PassView.known s.inboxes.now s.outbox.now

pub returns-clause-begin_left : goal.returns-clause-begin_left
returns-clause-begin_left g c =
    let s = c.args.self.now in
    λ p l r cut. (begin-halves (g.H.Hub.is_pass s.hub.now) (g.H.Hub.shape s.hub.now) g.P.PassView.known s.inboxes.now s.outbox.now p l r cut).0

pub returns-clause-begin_right : goal.returns-clause-begin_right
returns-clause-begin_right g c =
    let s = c.args.self.now in
    λ p l r cut. (begin-halves (g.H.Hub.is_pass s.hub.now) (g.H.Hub.shape s.hub.now) g.P.PassView.known s.inboxes.now s.outbox.now p l r cut).1

pub returns-clause-ran_both : goal.returns-clause-ran_both
returns-clause-ran_both g c =
    let s = c.args.self.now in
    halves-served (g.H.Hub.is_pass s.hub.now) (g.H.Hub.shape s.hub.now) g.P.PassView.known s.inboxes.now s.outbox.now

pub returns-clause-ran_neither : goal.returns-clause-ran_neither
returns-clause-ran_neither g c =
    let s = c.args.self.now in
    neither-served (g.H.Hub.is_pass s.hub.now) (g.H.Hub.shape s.hub.now) g.P.PassView.known s.inboxes.now s.outbox.now
