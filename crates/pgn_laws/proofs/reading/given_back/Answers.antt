use Rattle.pgn_reading.proofs.WholeLaws.{completed-shows_same, walked-is_legal, walked-is_legal_text}
use Rattle.pgn_laws.proofs.reading.given_back.Goals as goal

pub returns-clause-same_lines : goal.returns-clause-same_lines
returns-clause-same_lines c = completed-shows_same

pub returns-clause-legal : goal.returns-clause-legal
returns-clause-legal c = walked-is_legal

pub returns-clause-legal_text : goal.returns-clause-legal_text
returns-clause-legal_text c = walked-is_legal_text
