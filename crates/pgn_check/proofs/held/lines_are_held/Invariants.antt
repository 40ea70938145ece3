use Rattle.std.proofs.Common.{take}
use Rattle.std.specs.Prelude.{All}
use Rattle.pgn_check.specs.Laws.{IsHeldAct}
use Rattle.pgn_check.proofs.held.lines_are_held.Given as goal

abbrev pub invariant-loop-line : goal.invariant-loop-line
invariant-loop-line l = All (λ line. IsHeldAct line.act) (take l.line-index l.lines)
