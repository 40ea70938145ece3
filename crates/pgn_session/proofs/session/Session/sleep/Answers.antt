use Rattle.std.proofs.Common.{ℕ, ◌≤◌, sym, subst}
use Rattle.pgn_session.proofs.SleepLaws.{rest-below, slept-within}
use Rattle.pgn_session.proofs.session.Session.sleep.Goals as goal

pub sleep_on_flag-requires-clause-awaited : goal.sleep_on_flag-requires-clause-awaited
sleep_on_flag-requires-clause-awaited g c = rest-below (g.H.Hub.shape c.args.hub.now) g.P.PassView.known c.args.self.now c.requires.served c.requires.rested

pub returns-clause-within : goal.returns-clause-within
returns-clause-within g c =
    subst (λ (n : ℕ). n ≤ c.args.micros) (sym c.sleep_on_flag.ensures) (slept-within c.args.self.now.plan c.args.self.now.patience c.args.micros c.args.self.now.doing)
