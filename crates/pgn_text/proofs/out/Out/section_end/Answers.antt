use Rattle.pgn_text.proofs.PutsLaws.{Puts-trans}
use Rattle.pgn_text.proofs.out.Out.section_end.Goals as goal

pub returns : goal.returns
returns g c = Puts-trans c.section_line.ensures c.end.ensures
