use Rattle.pgn_text.proofs.PutsLaws.{Puts-trans}
use Rattle.pgn_text.proofs.out.Out.quoted_apart.Goals as goal

pub returns : goal.returns
returns g c = Puts-trans (Puts-trans c.text.ensures c.doubled.ensures) c.text-2.ensures
