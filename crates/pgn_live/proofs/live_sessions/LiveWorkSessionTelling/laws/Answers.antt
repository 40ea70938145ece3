use Rattle.pgn_live.proofs.WorkLaws.{begin-halves, goes-again, goes-behind, goes-begun, goes-front, gone-both, gone-more, gone-none, halves-played, neither-played}
use Rattle.pgn_live.proofs.live_sessions.LiveWorkSessionTelling.laws.Goals as goal

pub returns-clause-goes_begun : goal.returns-clause-goes_begun
returns-clause-goes_begun g c = goes-begun (g.H.Hub.is_pass c.args.self.now.hub.now) (g.H.Hub.shape c.args.self.now.hub.now) g.P.PassView.known c.args.self.now.outlet.now

pub returns-clause-took_none : goal.returns-clause-took_none
returns-clause-took_none g c = gone-none (g.H.Hub.is_pass c.args.self.now.hub.now) (g.H.Hub.shape c.args.self.now.hub.now) g.P.PassView.known c.args.self.now.outlet.now

pub returns-clause-took_more : goal.returns-clause-took_more
returns-clause-took_more g c = gone-more (g.H.Hub.is_pass c.args.self.now.hub.now) (g.H.Hub.shape c.args.self.now.hub.now) g.P.PassView.known c.args.self.now.outlet.now

pub returns-clause-goes_on : goal.returns-clause-goes_on
returns-clause-goes_on g c = goes-again (g.H.Hub.is_pass c.args.self.now.hub.now) (g.H.Hub.shape c.args.self.now.hub.now) g.P.PassView.known c.args.self.now.outlet.now

pub returns-clause-goes_front : goal.returns-clause-goes_front
returns-clause-goes_front g c = goes-front (g.H.Hub.is_pass c.args.self.now.hub.now) (g.H.Hub.shape c.args.self.now.hub.now) g.P.PassView.known c.args.self.now.outlet.now

pub returns-clause-goes_behind : goal.returns-clause-goes_behind
returns-clause-goes_behind g c = goes-behind (g.H.Hub.is_pass c.args.self.now.hub.now) (g.H.Hub.shape c.args.self.now.hub.now) g.P.PassView.known c.args.self.now.outlet.now

pub returns-clause-took_both : goal.returns-clause-took_both
returns-clause-took_both g c = gone-both (g.H.Hub.is_pass c.args.self.now.hub.now) (g.H.Hub.shape c.args.self.now.hub.now) g.P.PassView.known c.args.self.now.outlet.now

pub returns-clause-begin_left : goal.returns-clause-begin_left
returns-clause-begin_left g c = λ p l r cut. (begin-halves (g.H.Hub.is_pass c.args.self.now.hub.now) (g.H.Hub.shape c.args.self.now.hub.now) g.P.PassView.known c.args.self.now.outlet.now p l r cut).0

pub returns-clause-begin_right : goal.returns-clause-begin_right
returns-clause-begin_right g c = λ p l r cut. (begin-halves (g.H.Hub.is_pass c.args.self.now.hub.now) (g.H.Hub.shape c.args.self.now.hub.now) g.P.PassView.known c.args.self.now.outlet.now p l r cut).1

pub returns-clause-ran_both : goal.returns-clause-ran_both
returns-clause-ran_both g c = halves-played (g.H.Hub.is_pass c.args.self.now.hub.now) (g.H.Hub.shape c.args.self.now.hub.now) g.P.PassView.known c.args.self.now.outlet.now

pub returns-clause-ran_neither : goal.returns-clause-ran_neither
returns-clause-ran_neither g c = neither-played (g.H.Hub.is_pass c.args.self.now.hub.now) (g.H.Hub.shape c.args.self.now.hub.now) g.P.PassView.known c.args.self.now.outlet.now
