use Rattle.pgn_reading.proofs.SeenLaws.{read-shows_same, read-is_completed}
use Rattle.pgn_reading.proofs.ComesLaws.{own-is_seen}
use Rattle.pgn_laws.proofs.reading.seen.Goals as goal

pub returns-clause-same_lines : goal.returns-clause-same_lines
returns-clause-same_lines c = read-shows_same

pub returns-clause-completed : goal.returns-clause-completed
returns-clause-completed c = read-is_completed

pub returns-clause-own : goal.returns-clause-own
returns-clause-own c = own-is_seen
