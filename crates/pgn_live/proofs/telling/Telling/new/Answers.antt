use Rattle.pgn_live.proofs.TellLaws.{none-told}
use Rattle.pgn_live.proofs.telling.Telling.new.Goals as goal

pub returns-clause-none : goal.returns-clause-none
returns-clause-none c = λ n. none-told 257 n
