use Rattle.pgn_text.proofs.PutsLaws.{Puts-behind}
use Rattle.pgn_text.proofs.out.Out.tag_line.Goals as goal

pub returns : goal.returns
returns g c = Puts-behind _ c.mark.ensures c.tag.ensures
