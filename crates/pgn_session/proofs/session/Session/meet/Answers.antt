use Rattle.pgn_session.specs.Standing.{terms_of}
use Rattle.pgn_session.proofs.OverLaws.{heard-at_end}
use Rattle.pgn_session.proofs.session.Session.meet.Goals as goal

pub returns-clause-rested : goal.returns-clause-rested
returns-clause-rested g c =
    let s = c.args.into.now in
    heard-at_end (terms_of (g.H.Hub.shape c.args.hub.now) s.section s.patience) s.plan s.done s.block s.set.channels s.doing (g.P.PassView.known c.args.self.now.pass) (g.P.PassView.known s.pass) (g.P.PassView.known c.meet.new.into) s.items.items
    c.requires.over c.meet.ensures.heard c.requires.rested
