use Rattle.std.proofs.Common.{refl}
use Rattle.pgn_text.proofs.PutsLaws.{Puts-same}
use Rattle.pgn_text.proofs.out.Out.holder_end.Goals as goal

pub returns-in-None : goal.returns-in-None
returns-in-None g c = Puts-same (rw c.in-None.is refl) c.text.ensures
