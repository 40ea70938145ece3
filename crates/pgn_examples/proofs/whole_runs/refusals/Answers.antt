use Rattle.std.proofs.Common.{refl}
use Rattle.pgn_examples.proofs.LawfulSteps.{trace-computed}
use Rattle.pgn_examples.proofs.whole_runs.refusals.Goals as goal

pub returns-clause-refusals_of_each_kind : goal.returns-clause-refusals_of_each_kind
returns-clause-refusals_of_each_kind c = trace-computed refl refl refl refl refl refl

pub returns-clause-released_savepoint : goal.returns-clause-released_savepoint
returns-clause-released_savepoint c = trace-computed refl refl refl refl refl refl

pub returns-clause-back_into_a_failed_block : goal.returns-clause-back_into_a_failed_block
returns-clause-back_into_a_failed_block c = trace-computed refl refl refl refl refl refl
