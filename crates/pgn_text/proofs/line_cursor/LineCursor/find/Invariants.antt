use Rattle.std.proofs.Common.{◌≡◌, ◌-◌, drop, length}
use Rattle.pgn_model.specs.Text.{line_text}
use Rattle.pgn_text.specs.Rendering.{HasPassed}
use Rattle.pgn_text.proofs.line_cursor.LineCursor.find.Given as goal

abbrev pub invariant-loop-self : goal.invariant-loop-self
invariant-loop-self l = record {
  passed : HasPassed l.lines l.self;
  found : line_text l.n l.lines ≡ line_text l.n (drop l.self.next l.lines);
}

abbrev pub decreases-loop-self : goal.decreases-loop-self
decreases-loop-self l = length l.lines - l.self.next
