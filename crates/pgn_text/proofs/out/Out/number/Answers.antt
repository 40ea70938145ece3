use Rattle.std.proofs.Common.{append-nil}
use Rattle.pgn_text.proofs.PutsLaws.{Puts-same}
use Rattle.pgn_text.proofs.out.Out.number.Goals as goal

pub returns : goal.returns
returns g c = Puts-same (append-nil _) c.number_in.ensures
