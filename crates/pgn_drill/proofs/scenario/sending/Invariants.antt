use Rattle.std.proofs.Common.{◌≡◌, ℕ, ◌+◌}
use Rattle.pgn_drill.specs.Drill.{AddsLines, sent_lines, state_after, up_to}
use Rattle.pgn_drill.proofs.scenario.sending.Given as goal

abbrev pub invariant-loop-k : goal.invariant-loop-k
invariant-loop-k l = (seed drawn : ℕ) → l.state ≡ state_after seed drawn
    → (l.now ≡ state_after seed (drawn + l.k)) × AddsLines l.fn.text.items l.text.items (up_to (sent_lines seed drawn) l.k)
