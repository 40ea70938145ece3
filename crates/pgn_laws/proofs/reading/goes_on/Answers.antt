use Rattle.pgn_reading.proofs.GoesOnLaws.{begins-shorter, begins-whole, journal-goes_on, entry-goes_on, section-goes_on}
use Rattle.pgn_laws.proofs.reading.goes_on.Goals as goal

pub returns-clause-shorter : goal.returns-clause-shorter
returns-clause-shorter c = begins-shorter

pub returns-clause-whole : goal.returns-clause-whole
returns-clause-whole c = begins-whole

pub returns-clause-journal : goal.returns-clause-journal
returns-clause-journal c = journal-goes_on

pub returns-clause-entry : goal.returns-clause-entry
returns-clause-entry c = entry-goes_on

pub returns-clause-section : goal.returns-clause-section
returns-clause-section c = section-goes_on
