use Rattle.std.proofs.Common.{refl}
use Rattle.pgn_session.specs.declared.session.Session.{Session}
use Rattle.pgn_session.proofs.GiveUpLaws.{given-up}
use Rattle.pgn_session.proofs.session.Session.give_up.Goals as goal

pub returns-clause-gave_up : goal.returns-clause-gave_up
returns-clause-gave_up g c =
    let s : Session g.row.P.Denot = c.args.self.now in
    given-up g.P.PassView.known s (record s { pass = c.raise_end.new.pass }) _ c.raise_end.ensures.raised refl
