use Rattle.std.proofs.Common.{◌≡◌, ℕ, ◌+◌, ◌%◌, ◌/◌, subst}
use Rattle.pgn_drill.specs.Drill.{AddsLines, note_lines, sent_lines, state_after}
use Rattle.pgn_drill.proofs.LineLaws.{AddsLines-more, AddsLines-start, state-start, state-step}
use Rattle.pgn_drill.proofs.scenario.sending.Goals as goal

pub loop-k-init : goal.loop-k-init
loop-k-init c = λ seed drawn is. (state-start seed drawn c.args.state is, AddsLines-start c.args.text.now.items (sent_lines seed drawn))

pub loop-k-preserved : goal.loop-k-preserved
loop-k-preserved c = λ seed drawn is.
    let before = c.loop-k.invariant seed drawn is in
    let now : c.next-now.result ≡ state_after seed (drawn + (c.loop-k.k + 1)) = state-step seed drawn c.loop-k.k c.loop-k.now c.next-now.result before.0 c.next-now.ensures in
    let noted = subst (λ (x : ℕ). AddsLines c.loop-k.text.items c.note.new.text.items (note_lines ((c.loop-k.k + 1) % 4) (x / 8589934592))) now c.in_ok-note.ensures in
    (now, AddsLines-more _ _ _ (sent_lines seed drawn) c.loop-k.k before.1 noted)
