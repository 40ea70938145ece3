use Rattle.std.proofs.Common.{◌≡◌, drop}
use Rattle.pgn_model.specs.Text.{line_text}
use Rattle.pgn_text.proofs.line_cursor.line_of.Given as goal

abbrev pub invariant-loop-line : goal.invariant-loop-line
invariant-loop-line l = line_text l.n l.lines ≡ line_text l.n (drop l.line-index l.lines)
