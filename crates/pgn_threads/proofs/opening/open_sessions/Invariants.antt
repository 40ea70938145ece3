use Rattle.pgn_threads.specs.Opened.{HaveOpened}
use Rattle.pgn_threads.proofs.opening.open_sessions.Given as goal

abbrev pub invariant-loop-section : goal.invariant-loop-section
invariant-loop-section g l = HaveOpened g.P.PassView.known l.fn.shared.plan l.fn.shared.patience l.fn.sections.items l.yielded l.section-iterator.rest.items l.fn.passes.items l.passes.rest.items l.sessions.items
