use Rattle.pgn_model.proofs.TextLines.{text-has_lines}
use Rattle.pgn_laws.proofs.model.text.Goals as goal

pub returns : goal.returns
returns c = record { has_lines = text-has_lines }
