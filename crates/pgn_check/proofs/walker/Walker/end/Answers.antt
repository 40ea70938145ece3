use Rattle.pgn_check.proofs.WalkLaws.{end_bad, end_good, end_left}
use Rattle.pgn_check.proofs.walker.Walker.end.Goals as goal

pub returns-then-not-is_fresh_last : goal.returns-then-not-is_fresh_last
returns-then-not-is_fresh_last c = λ sections traces head end.
    end_left c.args.basis.now sections traces head c.args.trace.now c.args.self.now c.is_fresh_last.result end c.is_fresh_last.ensures c.if-not-is_fresh_last.true

pub returns-then-not-is_whole : goal.returns-then-not-is_whole
returns-then-not-is_whole c = λ sections traces head end.
    end_bad c.args.basis.now sections traces head c.args.trace.now c.args.self.now c.args.self.now.own c.is_fresh_last.result c.is_whole.result end c.is_fresh_last.ensures c.if-not-is_fresh_last.false
    c.requires.own c.is_whole.ensures c.if-not-is_whole.true

pub returns : goal.returns
returns c = λ sections traces head end.
    end_good c.args.basis.now sections traces head c.args.trace.now c.args.self.now c.args.self.now.own c.is_fresh_last.result c.is_whole.result end c.is_fresh_last.ensures c.if-not-is_fresh_last.false
    c.requires.own c.is_whole.ensures c.if-not-is_whole.false
