use Rattle.std.proofs.Common.{arith}
use Rattle.pgn_part_examples.proofs.LayoutSteps.{none_placed, no_filler_placed}
use Rattle.pgn_part_examples.proofs.layout.nothing_placed.Goals as goal

pub returns-clause-there : goal.returns-clause-there
returns-clause-there c = none_placed

pub returns-clause-filler : goal.returns-clause-filler
returns-clause-filler c = λ sender placed. omega (arith, no_filler_placed sender 2048 _ placed)
