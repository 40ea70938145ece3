use Rattle.pgn_check.proofs.LastLaws.{ended_by}
use Rattle.pgn_check.proofs.last.has_ended.Goals as goal

pub returns : goal.returns
returns c = λ journal.
    ended_by c.args.section.now journal c.args.at.now c.args.last.now c.has_answered.result c.is_over.result c.has_mark.result c.are_all.result c.has_answered.ensures c.is_over.ensures c.has_mark.ensures c.are_all.ensures
