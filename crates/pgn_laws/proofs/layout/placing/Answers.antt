use Rattle.pgn_layout.proofs.PlacingLaws.{placed_is_cut_short}
use Rattle.pgn_laws.proofs.layout.placing.Goals as goal

pub returns-clause-is_cut_short : goal.returns-clause-is_cut_short
returns-clause-is_cut_short c = placed_is_cut_short
