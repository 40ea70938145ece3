use Rattle.pgn_sorted.proofs.SortedLaws.{sessions-have_lines, live-is_sorted}
use Rattle.pgn_sorted.proofs.laws.live_is_sorted.Goals as goal

pub returns-clause-sessions : goal.returns-clause-sessions
returns-clause-sessions c = sessions-have_lines

pub returns-clause-text : goal.returns-clause-text
returns-clause-text c = live-is_sorted
