use Rattle.pgn_examples.proofs.ReadingLaws.{read-is_left_out, third-is_late, third-may_begin}
use Rattle.pgn_examples.proofs.reading.left_out.Goals as goal

pub returns-clause-blamed : goal.returns-clause-blamed
returns-clause-blamed c = read-is_left_out

pub returns-clause-unread : goal.returns-clause-unread
returns-clause-unread c = third-is_late

pub returns-clause-read : goal.returns-clause-read
returns-clause-read c = third-may_begin
