use Rattle.pgn_session.proofs.WholeLaws.{came-waiting, came-ended, came-did, came-over, came-rested}
use Rattle.pgn_session.proofs.GrowthLaws.{came-more}
use Rattle.pgn_session.proofs.session.Session.step.Goals as goal

pub returns-clause-waiting : goal.returns-clause-waiting
returns-clause-waiting g c = came-waiting (g.H.Hub.shape c.args.hub.now) g.P.PassView.known c.args.self.now c.go_on.new.self c.go_on.result (record { stepped = c.go_on.ensures.stepped; refused = c.go_on.ensures.refused })

pub returns-clause-ended : goal.returns-clause-ended
returns-clause-ended g c =
    came-ended (g.H.Hub.shape c.args.hub.now) g.P.PassView.known c.args.self.now c.go_on.new.self c.go_on.result (record { stepped = c.go_on.ensures.stepped; refused = c.go_on.ensures.refused }) c.requires.rested

pub returns-clause-grows : goal.returns-clause-grows
returns-clause-grows g c = came-more (g.H.Hub.shape c.args.hub.now) g.P.PassView.known c.args.self.now c.go_on.new.self c.go_on.result (record { stepped = c.go_on.ensures.stepped; refused = c.go_on.ensures.refused })

pub returns-clause-did : goal.returns-clause-did
returns-clause-did g c = came-did (g.H.Hub.shape c.args.hub.now) g.P.PassView.known c.args.self.now c.go_on.new.self c.go_on.result (record { stepped = c.go_on.ensures.stepped; refused = c.go_on.ensures.refused })

pub returns-clause-over : goal.returns-clause-over
returns-clause-over g c = came-over (g.H.Hub.shape c.args.hub.now) g.P.PassView.known c.args.self.now c.go_on.new.self c.go_on.result (record { stepped = c.go_on.ensures.stepped; refused = c.go_on.ensures.refused })

pub returns-clause-rested : goal.returns-clause-rested
returns-clause-rested g c = came-rested (g.H.Hub.shape c.args.hub.now) g.P.PassView.known c.args.self.now c.go_on.new.self c.go_on.result (record { stepped = c.go_on.ensures.stepped; refused = c.go_on.ensures.refused })
