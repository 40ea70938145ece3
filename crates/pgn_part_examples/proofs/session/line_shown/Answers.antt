use Rattle.pgn_part_examples.proofs.SessionLemmas.{shows-answer, shows-nothing, shows-sent, takes-wake, takes-at-empty, other-line, two-lines}
use Rattle.pgn_part_examples.proofs.session.line_shown.Goals as goal

pub returns-clause-answered : goal.returns-clause-answered
returns-clause-answered c = shows-answer

pub returns-clause-unanswered : goal.returns-clause-unanswered
returns-clause-unanswered c = shows-nothing

pub returns-clause-sent : goal.returns-clause-sent
returns-clause-sent c = shows-sent

pub returns-clause-takes_its_wake : goal.returns-clause-takes_its_wake
returns-clause-takes_its_wake c s = takes-wake s

pub returns-clause-takes_it_at_an_empty_line : goal.returns-clause-takes_it_at_an_empty_line
returns-clause-takes_it_at_an_empty_line c s = takes-at-empty s

pub returns-clause-another_line : goal.returns-clause-another_line
returns-clause-another_line c s = other-line s

pub returns-clause-two_lines : goal.returns-clause-two_lines
returns-clause-two_lines c s = two-lines s
