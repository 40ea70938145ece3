use Rattle.pgn_journal.proofs.QueueUseLaws.{no_page-grows, usage-grows}
use Rattle.pgn_laws.proofs.journal.queue_use.Goals as goal

pub returns-clause-no_page_grows : goal.returns-clause-no_page_grows
returns-clause-no_page_grows c = no_page-grows

pub returns-clause-usage_grows : goal.returns-clause-usage_grows
returns-clause-usage_grows c = usage-grows
