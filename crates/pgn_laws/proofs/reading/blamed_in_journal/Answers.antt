use Rattle.pgn_reading.proofs.BlameLaws.{entry-within, entry-from, no_entry-blamed}
use Rattle.pgn_laws.proofs.reading.blamed_in_journal.Goals as goal

pub returns-clause-within : goal.returns-clause-within
returns-clause-within c = entry-within

pub returns-clause-from : goal.returns-clause-from
returns-clause-from c = entry-from

pub returns-clause-none : goal.returns-clause-none
returns-clause-none c = no_entry-blamed
