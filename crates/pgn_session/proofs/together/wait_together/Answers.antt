use Rattle.std.proofs.Common.{◌≡◌, arith, rules}
use Rattle.pgn_session.specs.declared.doing.Step.TheVariants.{Waiting}
use Rattle.pgn_session.proofs.TogetherLaws.{all-unslept, slept-scripts, slept-shown}
use Rattle.pgn_session.proofs.together.wait_together.Goals as goal

pub returns-then-ne-clause-waited : goal.returns-then-ne-clause-waited
returns-then-ne-clause-waited g c = (0, omega arith, all-unslept _)

pub returns-clause-scripts : goal.returns-clause-scripts
returns-clause-scripts g c = let waited = c.give_way.ensures.waited in slept-scripts waited.0 c.args.sessions.now c.give_way.new.sessions waited.2

pub returns-clause-shown : goal.returns-clause-shown
returns-clause-shown g c = let waited = c.give_way.ensures.waited in slept-shown waited.0 c.args.sessions.now c.give_way.new.sessions waited.2

pub returns-clause-unslept : goal.returns-clause-unslept
returns-clause-unslept g c = λ other.
    let waits : c.args.step ≡ Waiting = search rules in
    absurd (other waits)
