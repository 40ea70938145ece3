use Rattle.pgn_laws.proofs.queries.one_reading.Goals as goal
use Rattle.pgn_queries.proofs.EachLaws.{each_has_reading}
use Rattle.pgn_queries.proofs.OneLaws as one

pub returns-clause-some : goal.returns-clause-some
returns-clause-some c = each_has_reading

pub returns-clause-one : goal.returns-clause-one
returns-clause-one c = one.one_reading
