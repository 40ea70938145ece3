use Rattle.pgn_part_examples.proofs.SessionLemmas.{ends-quits, no-line_ends, goes_on-ends}
use Rattle.pgn_part_examples.proofs.session.fed_script.Goals as goal

pub returns-clause-ends : goal.returns-clause-ends
returns-clause-ends c = ends-quits

pub returns-clause-no_line : goal.returns-clause-no_line
returns-clause-no_line c e = no-line_ends e

pub returns-clause-goes_on_behind_it : goal.returns-clause-goes_on_behind_it
returns-clause-goes_on_behind_it c e = goes_on-ends e
