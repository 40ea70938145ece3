use Rattle.std.proofs.Common.{take}
use Rattle.std.specs.Prelude.{All}
use Rattle.pgn_check.specs.Laws.{IsHeldAct}
use Rattle.pgn_check.proofs.held.are_held.Given as goal

abbrev pub invariant-loop-section : goal.invariant-loop-section
invariant-loop-section l = All (λ section. All (λ line. IsHeldAct line.act) section.lines) (take l.section-index l.sections)
