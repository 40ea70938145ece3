use Rattle.pgn_part_examples.proofs.OutletLaws.{two_numbers}
use Rattle.pgn_part_examples.proofs.outlet.met.Goals as goal

pub returns : goal.returns
returns c = two_numbers
