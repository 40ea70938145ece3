use Rattle.pgn_journal.proofs.InterestLaws.{interest-covers, nothing-in_common}
use Rattle.pgn_laws.proofs.journal.interests.Goals as goal

pub returns-clause-covers : goal.returns-clause-covers
returns-clause-covers c = interest-covers

pub returns-clause-apart : goal.returns-clause-apart
returns-clause-apart c = nothing-in_common
