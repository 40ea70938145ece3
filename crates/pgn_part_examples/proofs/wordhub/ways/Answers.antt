use Rattle.pgn_part_examples.proofs.WordhubCases.{nothing_stands}
use Rattle.pgn_part_examples.proofs.wordhub.ways.Goals as goal

pub returns-clause-nothing_there : goal.returns-clause-nothing_there
returns-clause-nothing_there c = nothing_stands
