use Rattle.pgn_session.proofs.SleepLaws.{answer-slept, rest-slept}
use Rattle.pgn_session.proofs.session.Session.sleep_over.Goals as goal

pub returns-clause-answered : goal.returns-clause-answered
returns-clause-answered g c = λ shape. answer-slept shape g.P.PassView.known c.args.self.now c.count_sleep.new.self c.args.micros c.count_sleep.ensures

pub returns-clause-rested : goal.returns-clause-rested
returns-clause-rested g c = λ shape. rest-slept shape g.P.PassView.known c.args.self.now c.count_sleep.new.self c.args.micros c.count_sleep.ensures
