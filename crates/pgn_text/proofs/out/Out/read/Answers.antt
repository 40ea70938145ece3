use Rattle.pgn_text.proofs.PutsLaws.{Puts-trans}
use Rattle.pgn_text.proofs.out.Out.read.Goals as goal

pub returns : goal.returns
returns g c = Puts-trans c.span_line.ensures c.delivery_lines.ensures
