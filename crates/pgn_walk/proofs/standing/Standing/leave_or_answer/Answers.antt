use Rattle.std.proofs.Common.{sym, ◌∙◌, subst}
use Rattle.pgn_model.specs.Walk.{leaving_or_answering}
use Rattle.pgn_ledger.specs.declared.to_show.ToShow.{ToShow}
use Rattle.pgn_ledger.specs.ToShow.{ending_of}
use Rattle.pgn_walk.specs.Standing.{Leads}
use Rattle.pgn_walk.proofs.CommitLaws.{answers, leaves}
use Rattle.pgn_walk.proofs.standing.Standing.leave_or_answer.Goals as goal

pub returns-then-is_to_leave : goal.returns-then-is_to_leave
returns-then-is_to_leave c =
    let old = c.args.self.now in
    subst (λ (left : ToShow). Leads old (record old { owed = left }) (λ s. leaving_or_answering s (ending_of c.args.ending))) (sym c.set.ensures)
    (leaves old c.args.ending (sym c.is_to_leave.ensures ∙ c.if-is_to_leave.true))

pub returns-else-is_to_leave : goal.returns-else-is_to_leave
returns-else-is_to_leave c =
    let old = c.args.self.now in
    subst (λ (left : ToShow). Leads old (record old { owed = left }) (λ s. leaving_or_answering s (ending_of c.args.ending))) (sym c.set-else-is_to_leave.ensures)
    (answers old c.args.ending (sym c.is_to_leave.ensures ∙ c.if-is_to_leave.false))
