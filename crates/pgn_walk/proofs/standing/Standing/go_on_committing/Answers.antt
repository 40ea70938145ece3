use Rattle.std.proofs.Common.{sym, ◌∙◌, subst}
use Rattle.std.proofs.lemmas.Result.{on_ok_weaker}
use Rattle.pgn_model.specs.Walk.{queueing_or_settled, settled}
use Rattle.pgn_ledger.specs.declared.to_show.ToShow.{ToShow}
use Rattle.pgn_ledger.specs.declared.to_show.ToShow.TheVariants as show
use Rattle.pgn_ledger.specs.ToShow.{ending_of}
use Rattle.pgn_walk.specs.Standing.{GoesOn, Leads}
use Rattle.pgn_walk.proofs.standing.Standing.go_on_committing.Goals as goal

pub returns-in-Enlisting : goal.returns-in-Enlisting
returns-in-Enlisting c =
    let old = c.args.self.now in
    let new = c.queue_or_settle.new.self in
    on_ok_weaker c.queue_or_settle.result
    (λ h. subst (λ (left : ToShow). GoesOn left (record old { owed = show.Nothing }) new) (sym (sym c.replace.ensures.value ∙ c.in-Enlisting.is))
    (subst (λ (left : ToShow). Leads (record old { owed = left }) new (λ s. queueing_or_settled s c.in-Enlisting.actions c.in-Enlisting.notes (ending_of c.in-Enlisting.ending))) c.replace.ensures.after h)) c.queue_or_settle.ensures

pub returns-in-Queueing : goal.returns-in-Queueing
returns-in-Queueing c =
    let old = c.args.self.now in
    let new = c.settle.new.self in
    on_ok_weaker c.settle.result
    (λ h. subst (λ (left : ToShow). GoesOn left (record old { owed = show.Nothing }) new) (sym (sym c.replace.ensures.value ∙ c.in-Queueing.is))
    (subst (λ (left : ToShow). Leads (record old { owed = left }) new (λ s. settled s c.in-Queueing.actions (ending_of c.in-Queueing.ending))) c.replace.ensures.after h)) c.settle.ensures
