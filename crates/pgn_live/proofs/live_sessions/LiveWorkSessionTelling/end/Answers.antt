use Rattle.std.proofs.Common.{refl}
use Rattle.pgn_live.proofs.WorkLaws.{part-ended, part-held}
use Rattle.pgn_live.proofs.live_sessions.LiveWorkSessionTelling.end.Goals as goal

pub end_all-requires : goal.end_all-requires
end_all-requires g c = record { held = part-held (g.H.Hub.is_pass c.args.self.now.hub.now) (g.H.Hub.shape c.args.self.now.hub.now) g.P.PassView.known c.args.self.now.outlet.now c.requires.0 c.args.sessions.now c.args.telling.now c.args.rounds c.requires.1.turns }

pub returns : goal.returns
returns g c = λ old taken.
    part-ended (g.H.Hub.is_pass c.args.self.now.hub.now) (g.H.Hub.shape c.args.self.now.hub.now) g.P.PassView.known c.args.self.now.outlet.now old c.args.sessions.now c.end_all.new.sessions c.args.telling.now c.args.telling.now c.args.rounds c.end_all.result taken refl c.end_all.ensures
