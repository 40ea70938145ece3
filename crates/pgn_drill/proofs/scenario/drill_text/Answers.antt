use Rattle.std.proofs.Common.{[], sym, subst, ℕ, List}
use Rattle.pgn_drill.specs.Drill.{AddsLines, session_lines, up_to}
use Rattle.pgn_drill.proofs.LineLaws.{AddsLines-start, session-step, state-first}
use Rattle.pgn_drill.proofs.scenario.drill_text.Goals as goal

pub loop-i-init : goal.loop-i-init
loop-i-init c = (
  state-first c.args.seed c.args.notes,
  subst (λ (t : List ℕ). AddsLines [] t (up_to (session_lines c.args.seed c.args.sessions c.args.notes) 0)) (sym c.new-text.ensures.items)
      (AddsLines-start [] (session_lines c.args.seed c.args.sessions c.args.notes)),
)

pub loop-i-preserved : goal.loop-i-preserved
loop-i-preserved c =
    session-step c.args.seed c.args.sessions c.args.notes c.loop-i.i c.loop-i.state c.in_ok-state.state c.loop-i.text.items c.opening.new.text.items c.sending.new.text.items
    c.loop-i.invariant.0 c.loop-i.invariant.1 c.in_ok-opening.ensures c.in_ok-state.ensures
