use Rattle.std.proofs.Common.{◌≡◌, ◌+◌, length, take}
use Rattle.pgn_model.specs.Legal.{EachTrace}
use Rattle.pgn_model.specs.Text.{traces_lines}
use Rattle.pgn_reading.specs.WholeLaws.{IsWalked}
use Rattle.pgn_check.specs.Sections.{settings_on}
use Rattle.pgn_check.proofs.sections.walk_all.Given as goal

abbrev pub invariant-loop-at : goal.invariant-loop-at
invariant-loop-at l = record {
  line : l.line ≡ l.head + length (traces_lines (take l.at l.sections) (take l.at l.traces));
  walked : EachTrace (settings_on l.grounds) (λ terms trace. IsWalked terms l.grounds.ledger.now.journal.now l.sections l.traces trace) (take l.at l.sections) (take l.at l.traces);
}
