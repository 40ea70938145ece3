use Rattle.pgn_text.proofs.PutsLaws.{Puts-trans}
use Rattle.pgn_text.proofs.out.Out.journal.Goals as goal

pub returns : goal.returns
returns g c = Puts-trans (Puts-trans (Puts-trans c.text.ensures c.number.ensures) c.text-2.ensures) c.entries.ensures
