use Rattle.pgn_lines.proofs.OnceLaws.{shown_once}
use Rattle.pgn_laws.proofs.lines.lines.Goals as goal

pub returns : goal.returns
returns c = record { once = shown_once }
