use Rattle.std.proofs.Common.{◌≡◌, ◌==◌, List, length, true, false, sym, ap, ◌∙◌, subst}
use Rattle.std.proofs.lemmas.Result.{on_ok_weaker}
use Rattle.pgn_base.specs.declared.note.Note.{Note}
use Rattle.pgn_model.specs.Walk.{queueing_or_settled}
use Rattle.pgn_ledger.specs.declared.to_show.ToShow.{ToShow}
use Rattle.pgn_ledger.specs.ToShow.{ending_of}
use Rattle.pgn_walk.specs.Standing.{Leads}
use Rattle.pgn_walk.proofs.CommitLaws.{queues, settles}
use Rattle.pgn_walk.proofs.standing.Standing.queue_or_settle.Goals as goal

pub returns-then-is_empty : goal.returns-then-is_empty
returns-then-is_empty c =
    let none : (length c.args.notes == 0) ≡ true = ap (λ (ns : List Note). length ns == 0) (sym c.as_slice.ensures) ∙ sym c.is_empty.ensures ∙ c.if-is_empty.true in
    on_ok_weaker c.settle.result (settles c.args.self.now c.settle.new.self c.args.actions c.args.notes c.args.ending none) c.settle.ensures

pub returns : goal.returns
returns c =
    let old = c.args.self.now in
    let some : (length c.args.notes == 0) ≡ false = ap (λ (ns : List Note). length ns == 0) (sym c.as_slice.ensures) ∙ sym c.is_empty.ensures ∙ c.if-is_empty.false in
    subst (λ (left : ToShow). Leads old (record old { owed = left }) (λ s. queueing_or_settled s c.args.actions c.args.notes (ending_of c.args.ending))) (sym c.set.ensures)
    (queues old c.args.actions c.args.notes c.args.ending some)
