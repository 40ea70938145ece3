use Rattle.std.proofs.Common.{refl}
use Rattle.std.specs.Fmt.{digits}
use Rattle.pgn_examples.proofs.whole_runs.lines_of_items.Goals as goal

pub returns-clause-full : goal.returns-clause-full
unfolding digits
returns-clause-full c = refl

pub returns-clause-used : goal.returns-clause-used
unfolding digits
returns-clause-used c = refl

pub returns-clause-summaries : goal.returns-clause-summaries
unfolding digits
returns-clause-summaries c = refl
