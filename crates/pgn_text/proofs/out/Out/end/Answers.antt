use Rattle.std.proofs.Common.{refl}
use Rattle.pgn_text.proofs.PutsLaws.{Puts-same, Puts-trans}
use Rattle.pgn_text.proofs.out.Out.end.Goals as goal

pub returns-in-Some : goal.returns-in-Some
returns-in-Some g c = Puts-same (rw (c.in-Some.is, c.from.ensures, c.get.ensures.value) refl) (Puts-trans (Puts-trans c.text-in-Some.ensures c.number.ensures) c.text-in-Some-2.ensures)
