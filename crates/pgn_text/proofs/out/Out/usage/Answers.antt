use Rattle.pgn_text.proofs.PutsLaws.{Puts-one, Puts-trans}
use Rattle.pgn_text.proofs.out.Out.usage.Goals as goal

pub returns : goal.returns
returns g c = Puts-trans c.usage_place.ensures (Puts-one _ c.usage_pages.ensures)
