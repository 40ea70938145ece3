use Rattle.std.proofs.Common.{◌≤◌, refl, arith}
use Rattle.pgn_examples.proofs.LawfulSteps.{trace-computed}
use Rattle.pgn_examples.proofs.whole_runs.flags.Goals as goal

pub returns-clause-found_lower : goal.returns-clause-found_lower
returns-clause-found_lower c = λ h.
    let below : 4 ≤ 3 = h.lawful.1.1.1.0.1 0 (0, 0) (omega arith) refl in
    absurd (omega (arith, below))

pub returns-clause-found_times_out : goal.returns-clause-found_times_out
returns-clause-found_times_out c = λ h. h.lawful.1.1.1.0.awaited.1 0 (0, 0) (omega arith) refl

pub returns-clause-raised : goal.returns-clause-raised
returns-clause-raised c = trace-computed refl refl refl refl refl refl

pub returns-clause-found_twice : goal.returns-clause-found_twice
returns-clause-found_twice c = trace-computed refl refl refl refl refl refl

pub returns-clause-other_found_lower : goal.returns-clause-other_found_lower
returns-clause-other_found_lower c = trace-computed refl refl refl refl refl refl

pub returns-clause-other_times_out : goal.returns-clause-other_times_out
returns-clause-other_times_out c = trace-computed refl refl refl refl refl refl

pub returns-clause-told_by_point : goal.returns-clause-told_by_point
returns-clause-told_by_point c = trace-computed refl refl refl refl refl refl

pub returns-clause-told_by_read : goal.returns-clause-told_by_read
returns-clause-told_by_read c = trace-computed refl refl refl refl refl refl

pub returns-clause-flags_in_a_failed_block : goal.returns-clause-flags_in_a_failed_block
returns-clause-flags_in_a_failed_block c = trace-computed refl refl refl refl refl refl
