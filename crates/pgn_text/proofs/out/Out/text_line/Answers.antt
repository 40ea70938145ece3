use Rattle.pgn_text.proofs.PutsLaws.{Puts-behind}
use Rattle.pgn_text.proofs.out.Out.text_line.Goals as goal

pub returns : goal.returns
returns g c = Puts-behind _ c.mark.ensures c.text_in.ensures
