use Rattle.pgn_walk.proofs.AnswerLaws.{reply_same}
use Rattle.pgn_walk.proofs.items.is_reply.Goals as goal

pub returns-in-Replied : goal.returns-in-Replied
returns-in-Replied c = reply_same c.args.ending.now c.args.tag.now c.in-Replied.due c.args.warning.now c.in-Replied.before c.same_reply.result c.in-Replied.is c.same_reply.ensures
