use Rattle.std.proofs.Common.{arith}
use Rattle.pgn_part_examples.proofs.wire.read_up.Goals as goal

pub returns-clause-told_of_more : goal.returns-clause-told_of_more
returns-clause-told_of_more c = λ h. omega (arith, h)
