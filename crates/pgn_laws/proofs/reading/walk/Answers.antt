use Rattle.pgn_reading.proofs.ComesLaws.{comes-first, comes-on, comes-to_end, fresh-first, fresh-on, fresh-comes, own-is_read}
use Rattle.pgn_laws.proofs.reading.walk.Goals as goal

pub returns-clause-first : goal.returns-clause-first
returns-clause-first c = comes-first

pub returns-clause-on : goal.returns-clause-on
returns-clause-on c = comes-on

pub returns-clause-to_end : goal.returns-clause-to_end
returns-clause-to_end c = comes-to_end

pub returns-clause-fresh_first : goal.returns-clause-fresh_first
returns-clause-fresh_first c = fresh-first

pub returns-clause-fresh_on : goal.returns-clause-fresh_on
returns-clause-fresh_on c = fresh-on

pub returns-clause-fresh_to_end : goal.returns-clause-fresh_to_end
returns-clause-fresh_to_end c = fresh-comes

pub returns-clause-own : goal.returns-clause-own
returns-clause-own c = own-is_read
