use Rattle.pgn_reading.proofs.BlameLaws.{blamed-behind, least-in_first, blamed-apart, blamed-later}
use Rattle.pgn_laws.proofs.reading.blamed_in_sections.Goals as goal

pub returns-clause-behind : goal.returns-clause-behind
returns-clause-behind c = blamed-behind

pub returns-clause-least_in_first : goal.returns-clause-least_in_first
returns-clause-least_in_first c = least-in_first

pub returns-clause-apart : goal.returns-clause-apart
returns-clause-apart c = blamed-apart

pub returns-clause-later : goal.returns-clause-later
returns-clause-later c = blamed-later
