use Rattle.pgn_block.proofs.StepLaws.{step-effect, step-state, step-list, step-history, step-nothing}
use Rattle.pgn_block.proofs.block.Block.step.Goals as goal

pub invariant_of-self : goal.invariant_of-self
invariant_of-self c = step-history _ _ _ _ c.step.ensures.ok c.step.ensures.unchanged c.self.invariant

pub returns-clause-effect : goal.returns-clause-effect
returns-clause-effect c = step-effect _ _ _ _ _ c.self.view_is c.step.ensures.ok

pub returns-clause-state : goal.returns-clause-state
returns-clause-state c = step-state _ _ _ _ _ c.self.view_is c.step.ensures.ok

pub returns-clause-list : goal.returns-clause-list
returns-clause-list c = step-list _ _ _ _ _ c.self.view_is c.step.ensures.ok

pub returns-clause-nothing : goal.returns-clause-nothing
returns-clause-nothing c = step-nothing _ _ _ _ _ c.step.ensures.ok c.step.ensures.memory c.self.invariant
