use Rattle.pgn_walk.proofs.AnswerLaws.{leave_by}
use Rattle.pgn_walk.proofs.standing.Standing.leave.Goals as goal

pub returns : goal.returns
returns c = λ terms journal. leave_by terms journal c.args.self.now c.go_on.new.self c.is_leaving-due.result c.is_leaving-due.ensures c.go_on.ensures
