use Rattle.pgn_frames.proofs.AskLaws.{each_is_asked}
use Rattle.pgn_laws.proofs.AskLaws.{one_asking}
use Rattle.pgn_laws.proofs.NumberLaws.{numbers_go_on}
use Rattle.pgn_laws.proofs.frames.one_asking.Goals as goal

pub returns-clause-some : goal.returns-clause-some
returns-clause-some c = each_is_asked

pub returns-clause-one : goal.returns-clause-one
returns-clause-one c = one_asking

pub returns-clause-numbers_go_on : goal.returns-clause-numbers_go_on
returns-clause-numbers_go_on c = numbers_go_on
