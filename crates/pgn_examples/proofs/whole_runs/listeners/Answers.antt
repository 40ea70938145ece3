use Rattle.std.proofs.Common.{refl}
use Rattle.pgn_examples.proofs.LawfulSteps.{trace-computed}
use Rattle.pgn_examples.proofs.whole_runs.listeners.Goals as goal

pub returns-clause-channels_as_before : goal.returns-clause-channels_as_before
returns-clause-channels_as_before c = trace-computed refl refl refl refl refl refl

pub returns-clause-listen_rolled_back : goal.returns-clause-listen_rolled_back
returns-clause-listen_rolled_back c = trace-computed refl refl refl refl refl refl

pub returns-clause-listening_again : goal.returns-clause-listening_again
returns-clause-listening_again c = trace-computed refl refl refl refl refl refl

pub returns-clause-quit_no_listener : goal.returns-clause-quit_no_listener
returns-clause-quit_no_listener c = trace-computed refl refl refl refl refl refl

pub returns-clause-quit_with_savepoint : goal.returns-clause-quit_with_savepoint
returns-clause-quit_with_savepoint c = trace-computed refl refl refl refl refl refl
