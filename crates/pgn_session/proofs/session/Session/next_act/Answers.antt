use Rattle.pgn_session.proofs.NextLaws.{comes-at}
use Rattle.pgn_session.proofs.session.Session.next_act.Goals as goal

pub returns-clause-comes : goal.returns-clause-comes
returns-clause-comes g c = comes-at c.args.self.now c.as_slice.result.now c.index-as_slice-self.result c.in_ok-act.act c.as_slice.ensures c.requires.more c.index-as_slice-self.is c.in_ok-act.ensures.equal
