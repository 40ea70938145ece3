use Rattle.pgn_unique.proofs.JournalLines.{journal-unique}
use Rattle.pgn_unique.proofs.ShortLaws.{legal-has_journal}
use Rattle.pgn_unique.proofs.laws.journal_is_unique.Goals as goal

pub returns-clause-legal : goal.returns-clause-legal
returns-clause-legal c = legal-has_journal

pub returns-clause-unique : goal.returns-clause-unique
returns-clause-unique c = journal-unique
