use Rattle.std.proofs.Common.{ap}
use Rattle.pgn_listening.specs.Listening.{Listening}
use Rattle.pgn_session.proofs.OverLaws.{begins-rested}
use Rattle.pgn_session.proofs.session.Session.new.Goals as goal

pub returns-clause-rested : goal.returns-clause-rested
returns-clause-rested g c = λ shape.
    let a = c.args in
    begins-rested shape a.section a.plan a.patience c.new.result c.new-2.result.channels (g.P.PassView.known a.pass) c.in-Ok.items.items c.requires.opened c.requires.counted c.requires.quits_last c.requires.patient
    c.new.ensures (ap (λ (l : Listening). l.channels) c.new-2.ensures) c.in-Ok.ensures
