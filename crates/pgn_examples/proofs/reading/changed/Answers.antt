use Rattle.pgn_examples.proofs.ReadingLaws.{changed-shown, unread-shown, commit-is_refused, read-is_missing}
use Rattle.pgn_examples.proofs.reading.changed.Goals as goal

pub returns-clause-payload_shown : goal.returns-clause-payload_shown
returns-clause-payload_shown c = changed-shown

pub returns-clause-payload_refused : goal.returns-clause-payload_refused
returns-clause-payload_refused c = commit-is_refused

pub returns-clause-unread_shown : goal.returns-clause-unread_shown
returns-clause-unread_shown c = unread-shown

pub returns-clause-unread : goal.returns-clause-unread
returns-clause-unread c = read-is_missing
