use Rattle.pgn_session.proofs.TogetherLaws.{all-slept}
use Rattle.pgn_session.proofs.together.rest_together.Goals as goal

pub returns-clause-ready : goal.returns-clause-ready
returns-clause-ready g c =
    all-slept (g.H.Hub.is_pass c.args.hub.now) (g.H.Hub.shape c.args.hub.now) g.P.PassView.known _ c.args.sessions.now c.sleep_over_all.new.sessions c.sleep_over_all.ensures c.requires.ready

pub returns-clause-waited : goal.returns-clause-waited
returns-clause-waited g c = (c.sleep_on_one-micros.result, c.sleep_on_one-micros.ensures, c.sleep_over_all.ensures)
