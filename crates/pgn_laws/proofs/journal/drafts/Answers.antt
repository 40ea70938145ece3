use Rattle.pgn_journal.proofs.DraftLaws.{finished_are_written, one_more_image, draft_at_page_start, finished_are_drafts, drafts_finish, drafts_are_written}
use Rattle.pgn_laws.proofs.journal.drafts.Goals as goal

pub returns-clause-finished_are_written : goal.returns-clause-finished_are_written
returns-clause-finished_are_written c = finished_are_written

pub returns-clause-one_more_image : goal.returns-clause-one_more_image
returns-clause-one_more_image c = one_more_image

pub returns-clause-draft_at_page_start : goal.returns-clause-draft_at_page_start
returns-clause-draft_at_page_start c = draft_at_page_start

pub returns-clause-finished_are_drafts : goal.returns-clause-finished_are_drafts
returns-clause-finished_are_drafts c = finished_are_drafts

pub returns-clause-drafts_finish : goal.returns-clause-drafts_finish
returns-clause-drafts_finish c = drafts_finish

pub returns-clause-drafts_are_written : goal.returns-clause-drafts_are_written
returns-clause-drafts_are_written c = drafts_are_written
