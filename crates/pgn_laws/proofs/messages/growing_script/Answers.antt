use Rattle.pgn_laws.proofs.messages.growing_script.Goals as goal
use Rattle.pgn_messages.proofs.RestLaws as laws

pub returns-clause-line_is_put_in : goal.returns-clause-line_is_put_in
returns-clause-line_is_put_in c = laws.line_is_put_in

pub returns-clause-one_line_begins : goal.returns-clause-one_line_begins
returns-clause-one_line_begins c = laws.one_line_begins
