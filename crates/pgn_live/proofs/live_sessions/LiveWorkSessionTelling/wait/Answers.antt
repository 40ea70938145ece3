use Rattle.std.proofs.Common.{refl}
use Rattle.pgn_live.proofs.WorkLaws.{part-waited}
use Rattle.pgn_live.proofs.live_sessions.LiveWorkSessionTelling.wait.Goals as goal

pub wait_together-requires : goal.wait_together-requires
wait_together-requires g c = record { ready = c.requires.may.ready }

pub returns-clause-took : goal.returns-clause-took
returns-clause-took g c =
    part-waited (g.H.Hub.is_pass c.args.self.now.hub.now) (g.H.Hub.shape c.args.self.now.hub.now) g.P.PassView.known c.args.self.now.outlet.now c.args.sessions.now c.wait_together.new.sessions c.args.telling.now c.args.telling.now refl c.requires c.wait_together.ensures.ready c.wait_together.ensures.scripts c.wait_together.ensures.shown
