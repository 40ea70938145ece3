use Rattle.pgn_reading.proofs.BlameLaws.{reading-has_form, least-in_form, least-in_journal, least-in_traces}
use Rattle.pgn_laws.proofs.reading.least_blamed.Goals as goal

pub returns-clause-has_form : goal.returns-clause-has_form
returns-clause-has_form c = reading-has_form

pub returns-clause-in_form : goal.returns-clause-in_form
returns-clause-in_form c = least-in_form

pub returns-clause-in_journal : goal.returns-clause-in_journal
returns-clause-in_journal c = least-in_journal

pub returns-clause-in_traces : goal.returns-clause-in_traces
returns-clause-in_traces c = least-in_traces
