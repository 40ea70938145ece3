use Rattle.pgn_journal.proofs.DraftLaws.{longer_agrees, xids_go_on}
use Rattle.pgn_laws.proofs.journal.longer_journals.Goals as goal

pub returns-clause-longer_agrees : goal.returns-clause-longer_agrees
returns-clause-longer_agrees c = longer_agrees

pub returns-clause-xids_go_on : goal.returns-clause-xids_go_on
returns-clause-xids_go_on c = xids_go_on
