use Rattle.std.proofs.Common.{sym, ◌∙◌, subst}
use Rattle.pgn_reading.specs.Completed.{ready}
use Rattle.pgn_walk.specs.declared.standing.Standing.{Standing}
use Rattle.pgn_walk.specs.Standing.{Holds}
use Rattle.pgn_walk.proofs.ReadyLaws.{ready_with, ready_without}
use Rattle.pgn_walk.proofs.standing.Standing.ready.Goals as goal

pub returns-then-has_no_rows : goal.returns-then-has_no_rows
returns-then-has_no_rows c = λ section journal s h.
    subst (λ (new : Standing). Holds section journal new (ready s)) (sym c.go_on.ensures) (ready_with section journal c.args.self.now s (sym c.has_no_rows.ensures ∙ c.if-has_no_rows.true) h)

pub returns-else-has_no_rows : goal.returns-else-has_no_rows
returns-else-has_no_rows c = λ section journal s h. ready_without section journal c.args.self.now s (sym c.has_no_rows.ensures ∙ c.if-has_no_rows.false) h
