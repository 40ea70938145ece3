use Rattle.std.proofs.Common.{sym, subst}
use Rattle.pgn_model.specs.declared.item.Item.TheVariants as item
use Rattle.pgn_ledger.specs.declared.to_show.ToShow.{ToShow}
use Rattle.pgn_walk.specs.Steps.{Moves}
use Rattle.pgn_walk.proofs.AnswerLaws.{refuse_by, refuse_never}
use Rattle.pgn_walk.proofs.standing.Standing.refuse.Goals as goal

pub returns-in_default : goal.returns-in_default
returns-in_default c = λ terms journal. refuse_never terms journal c.args.self.now c.args.self.now c.args.refusal.now c.in_default.not-Answering

pub returns : goal.returns
returns c = λ terms journal.
    subst (λ (left : ToShow). Moves terms journal c.args.self.now (item.Refuse c.args.refusal.now) c.is_refusal-due.result (record c.args.self.now { owed = left })) (sym c.set.ensures)
    (refuse_by terms journal c.args.self.now c.args.refusal.now c.in-Answering.ending c.is_refusal-due.result c.in-Answering.is c.is_refusal-due.ensures)
