use Rattle.pgn_laws.proofs.LeastLaws.{least_is_least, only_empty_has_none}
use Rattle.pgn_laws.proofs.lanes.least_laws.Goals as goal

pub returns-clause-least : goal.returns-clause-least
returns-clause-least c = least_is_least

pub returns-clause-none : goal.returns-clause-none
returns-clause-none c = only_empty_has_none
