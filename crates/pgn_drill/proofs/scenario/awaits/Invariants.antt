use Rattle.pgn_drill.specs.Drill.{AddsLines, await_line, up_to}
use Rattle.pgn_drill.proofs.scenario.awaits.Given as goal

abbrev pub invariant-loop-i : goal.invariant-loop-i
invariant-loop-i l = AddsLines l.fn.text.items l.text.items (up_to await_line l.i)
