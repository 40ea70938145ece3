use Rattle.std.proofs.Common.{append_assoc}
use Rattle.pgn_text.proofs.PutsLaws.{Puts-same, Puts-trans}
use Rattle.pgn_text.proofs.out.Out.numbers.Goals as goal

pub returns : goal.returns
returns g c = Puts-same (simp append_assoc) (Puts-trans c.labelled.ensures c.labelled-2.ensures)
