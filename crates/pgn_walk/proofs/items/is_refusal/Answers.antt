use Rattle.pgn_walk.proofs.AnswerLaws.{refuse_same}
use Rattle.pgn_walk.proofs.items.is_refusal.Goals as goal

pub returns-in-Refused : goal.returns-in-Refused
returns-in-Refused c = refuse_same c.args.ending.now c.args.refusal.now c.in-Refused.due c.same_refusal.result c.in-Refused.is c.same_refusal.ensures
