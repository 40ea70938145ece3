use Rattle.pgn_sorted.proofs.OneLineLaws.{legal-has_lines}
use Rattle.pgn_sorted.proofs.laws.legal_has_lines.Goals as goal

pub returns : goal.returns
returns c = legal-has_lines
