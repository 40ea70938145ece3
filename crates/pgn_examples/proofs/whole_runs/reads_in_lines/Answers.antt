use Rattle.std.proofs.Common.{refl}
use Rattle.pgn_examples.proofs.LawfulSteps.{trace-computed}
use Rattle.pgn_examples.proofs.whole_runs.reads_in_lines.Goals as goal

pub returns-clause-in_await : goal.returns-clause-in_await
returns-clause-in_await c = trace-computed refl refl refl refl refl refl
