use Rattle.std.proofs.Common.{refl}
use Rattle.std.specs.Fmt.{digits}
use Rattle.pgn_examples.proofs.savepoints.outcomes_one_after_another.Goals as goal

pub returns-clause-failed_block_shown : goal.returns-clause-failed_block_shown
unfolding digits
returns-clause-failed_block_shown c = refl
