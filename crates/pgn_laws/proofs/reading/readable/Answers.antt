use Rattle.pgn_reading.proofs.ReadableLaws.{lines-are_one, readable-has_lines, readable-is_one}
use Rattle.pgn_laws.proofs.reading.readable.Goals as goal

pub returns-clause-lines : goal.returns-clause-lines
returns-clause-lines c = lines-are_one

pub returns-clause-cut : goal.returns-clause-cut
returns-clause-cut c = readable-has_lines

pub returns-clause-one : goal.returns-clause-one
returns-clause-one c = readable-is_one
