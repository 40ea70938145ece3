use Rattle.std.proofs.Common.{arith}
use Rattle.pgn_session.proofs.TogetherLaws.{all-slept, all-unslept}
use Rattle.pgn_session.proofs.together.give_way.Goals as goal

pub returns-then-sessions-eq1-clause-ready : goal.returns-then-sessions-eq1-clause-ready
returns-then-sessions-eq1-clause-ready g c =
    let waited = c.wait_alone.ensures in
    all-slept (g.H.Hub.is_pass c.args.hub.now) (g.H.Hub.shape c.args.hub.now) g.P.PassView.known waited.0 c.args.sessions.now c.wait_alone.new.sessions waited.2 c.requires.ready

pub returns-in_default-clause-waited : goal.returns-in_default-clause-waited
returns-in_default-clause-waited g c = (0, omega arith, all-unslept _)
