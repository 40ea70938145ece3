use Rattle.pgn_reading.proofs.BlameLaws.{spotless-first, spotless-on}
use Rattle.pgn_laws.proofs.reading.spotless.Goals as goal

pub returns-clause-first : goal.returns-clause-first
returns-clause-first c = spotless-first

pub returns-clause-on : goal.returns-clause-on
returns-clause-on c = spotless-on
