use Rattle.pgn_reading.proofs.ComesLaws.{lawful-is_not_refused, fresh-is_not_left_out, fresh-is_up_to_date, lawful-is_finished}
use Rattle.pgn_laws.proofs.reading.lawful_is_not_blamed.Goals as goal

pub returns-clause-allowed : goal.returns-clause-allowed
returns-clause-allowed c = lawful-is_not_refused

pub returns-clause-fresh : goal.returns-clause-fresh
returns-clause-fresh c = fresh-is_not_left_out

pub returns-clause-up_to_date : goal.returns-clause-up_to_date
returns-clause-up_to_date c = fresh-is_up_to_date

pub returns-clause-finished : goal.returns-clause-finished
returns-clause-finished c = lawful-is_finished
