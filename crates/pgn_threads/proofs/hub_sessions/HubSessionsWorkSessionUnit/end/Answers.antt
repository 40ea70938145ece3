use Rattle.pgn_threads.proofs.WorkLaws.{ended, held-after}
use Rattle.pgn_threads.proofs.hub_sessions.HubSessionsWorkSessionUnit.end.Goals as goal

pub end_all-requires : goal.end_all-requires
end_all-requires g c = record { held = held-after (g.H.Hub.is_pass c.args.self.now.hub.now) (g.H.Hub.shape c.args.self.now.hub.now) g.P.PassView.known c.requires.0.workers c.args.sessions.now c.args.rounds c.requires.1.turns }

pub returns : goal.returns
returns g c = λ old taken.
    ended (g.H.Hub.is_pass c.args.self.now.hub.now) (g.H.Hub.shape c.args.self.now.hub.now) g.P.PassView.known old.workers c.args.sessions.now c.end_all.new.sessions c.args.rounds c.end_all.result taken.turns taken.all_over taken.some c.end_all.ensures
