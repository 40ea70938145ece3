use Rattle.pgn_check.proofs.WalkLaws.{step_bad, step_left, step_on}
use Rattle.pgn_check.proofs.walker.Walker.step.Goals as goal

pub returns-then-not-is_fresh_at-clause-come : goal.returns-then-not-is_fresh_at-clause-come
returns-then-not-is_fresh_at-clause-come c = λ sections traces head trace before after around.
    step_left c.args.basis.now sections traces head trace before c.args.item.now after c.args.self.now c.ready.new.self c.is_fresh_at.result around c.ready.ensures c.is_fresh_at.ensures c.if-not-is_fresh_at.true

pub returns-then-not-branch-clause-come : goal.returns-then-not-branch-clause-come
returns-then-not-branch-clause-come c = λ sections traces head trace before after around.
    step_bad c.args.basis.now sections traces head trace before c.args.item.now after c.args.self.now c.ready.new.self c.takes.new.at c.is_fresh_at.result c.in_ok-takes.field-0 around c.ready.ensures
    c.is_fresh_at.ensures c.if-not-is_fresh_at.false (c.in_ok-takes.ensures sections traces before around.tells around.own) c.if-not-branch.true

pub returns-clause-come : goal.returns-clause-come
returns-clause-come c = λ sections traces head trace before after around.
    step_on c.args.basis.now sections traces head trace before c.args.item.now after c.args.self.now c.ready.new.self c.takes.new.at c.is_fresh_at.result c.in_ok-takes.field-0 around c.ready.ensures
    c.is_fresh_at.ensures c.if-not-is_fresh_at.false (c.in_ok-takes.ensures sections traces before around.tells around.own) c.if-not-branch.false
