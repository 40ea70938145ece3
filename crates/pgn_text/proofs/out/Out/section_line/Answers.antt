use Rattle.pgn_text.proofs.PutsLaws.{Puts-trans}
use Rattle.pgn_text.proofs.out.Out.section_line.Goals as goal

pub returns : goal.returns
returns g c = Puts-trans c.text.ensures (Puts-trans (Puts-trans (Puts-trans c.place.ensures c.text-2.ensures) c.pid.ensures) c.text-3.ensures)
