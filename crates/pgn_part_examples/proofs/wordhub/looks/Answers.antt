use Rattle.pgn_part_examples.proofs.WordhubCases.{not_past_a_mark}
use Rattle.pgn_part_examples.proofs.wordhub.looks.Goals as goal

pub returns-clause-past_a_mark : goal.returns-clause-past_a_mark
returns-clause-past_a_mark c = not_past_a_mark
