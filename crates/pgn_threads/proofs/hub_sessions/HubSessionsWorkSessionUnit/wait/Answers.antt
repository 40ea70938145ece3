use Rattle.pgn_threads.proofs.WorkLaws.{waited}
use Rattle.pgn_threads.proofs.hub_sessions.HubSessionsWorkSessionUnit.wait.Goals as goal

pub returns-clause-took : goal.returns-clause-took
returns-clause-took g c = waited (g.H.Hub.is_pass c.args.self.now.hub.now) (g.H.Hub.shape c.args.self.now.hub.now) g.P.PassView.known c.args.sessions.now c.wait_together.new.sessions c.wait_together.ensures.ready c.wait_together.ensures.scripts
