use Rattle.pgn_laws.proofs.CallLaws.{read-grows, woken-grows, full-grows, measured-grows}
use Rattle.pgn_laws.proofs.hub.more_of_the_journal.Goals as goal

pub returns-clause-read : goal.returns-clause-read
returns-clause-read c = read-grows

pub returns-clause-woken : goal.returns-clause-woken
returns-clause-woken c = woken-grows

pub returns-clause-full : goal.returns-clause-full
returns-clause-full c = full-grows

pub returns-clause-measured : goal.returns-clause-measured
returns-clause-measured c = measured-grows
