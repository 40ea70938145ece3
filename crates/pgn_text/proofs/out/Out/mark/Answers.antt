use Rattle.std.proofs.Common.{refl}
use Rattle.pgn_text.proofs.PutsLaws.{Puts-same, Puts-trans}
use Rattle.pgn_text.proofs.out.Out.mark.Goals as goal

pub returns : goal.returns
returns g c = Puts-same (rw (c.in-Some.is, c.from.ensures) refl) (Puts-trans c.number.ensures c.text.ensures)
