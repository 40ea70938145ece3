use Rattle.pgn_outlet.proofs.KeptLaws.{takes, learns, none_left}
use Rattle.pgn_outlet.proofs.outlet.Outlet.take.Goals as goal

pub pop_as-requires-clause-rule : goal.pop_as-requires-clause-rule
pop_as-requires-clause-rule g c = (takes _ _ c.requires.takes, learns _ _ c.requires.takes)

pub returns-clause-has_all : goal.returns-clause-has_all
returns-clause-has_all g c = none_left _ c.pop_as.result _ _ c.pop_as.ensures.rule
