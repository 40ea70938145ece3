use Rattle.std.proofs.Common.{refl}
use Rattle.pgn_threads.proofs.WorkLaws.{behind-ready, front-ready}
use Rattle.pgn_threads.proofs.hub_sessions.HubSessionsWorkSessionUnit.cut.Goals as goal

pub returns : goal.returns
returns g c = λ xs ys long ready. record {
  cut = refl;
  left_ready = front-ready (g.H.Hub.is_pass c.args.self.now.hub.now) (g.H.Hub.shape c.args.self.now.hub.now) g.P.PassView.known xs ys ready;
  right_ready = behind-ready (g.H.Hub.is_pass c.args.self.now.hub.now) (g.H.Hub.shape c.args.self.now.hub.now) g.P.PassView.known xs ys ready;
}
