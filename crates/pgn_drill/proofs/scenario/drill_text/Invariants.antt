use Rattle.std.proofs.Common.{◌≡◌, ◌*◌, []}
use Rattle.pgn_drill.specs.Drill.{AddsLines, session_lines, state_after, up_to}
use Rattle.pgn_drill.proofs.scenario.drill_text.Given as goal

abbrev pub invariant-loop-i : goal.invariant-loop-i
invariant-loop-i l = (l.state ≡ state_after l.seed (l.i * l.notes)) × AddsLines [] l.text.items (up_to (session_lines l.seed l.sessions l.notes) l.i)
