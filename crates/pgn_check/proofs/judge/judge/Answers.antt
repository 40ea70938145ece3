-- Each kind of item is judged by its own step.
use Rattle.std.proofs.Common.{sym, subst}
use Rattle.std.proofs.lemmas.Result.{IfOk-weaker}
use Rattle.pgn_model.specs.declared.item.Item.{Item}
use Rattle.pgn_walk.specs.Basis.{journal_of, settings_of, terms_of}
use Rattle.pgn_walk.specs.Steps.{Moves}
use Rattle.pgn_check.proofs.judge.judge.Goals as goal

pub returns-in-Line : goal.returns-in-Line
returns-in-Line c =
    let basis = c.args.basis.now in
    IfOk-weaker c.line.result _ _ (λ allowed h. subst (λ (i : Item). Moves (terms_of basis) (journal_of basis) c.args.at.now i allowed c.line.new.self) (sym c.in-Line.is) (h (settings_of basis) (journal_of basis))) c.line.ensures

pub returns-in-Enlist : goal.returns-in-Enlist
returns-in-Enlist c =
    let basis = c.args.basis.now in
    IfOk-weaker c.enlist.result _ _ (λ allowed h. subst (λ (i : Item). Moves (terms_of basis) (journal_of basis) c.args.at.now i allowed c.enlist.new.self) (sym c.in-Enlist.is) (h (terms_of basis))) c.enlist.ensures

pub returns-in-Publish : goal.returns-in-Publish
returns-in-Publish c =
    let basis = c.args.basis.now in
    IfOk-weaker c.publish.result _ _ (λ allowed h. subst (λ (i : Item). Moves (terms_of basis) (journal_of basis) c.args.at.now i allowed c.publish.new.self) (sym c.in-Publish.is) (h (settings_of basis) _)) c.publish.ensures

pub returns-in-QueueFull : goal.returns-in-QueueFull
returns-in-QueueFull c =
    let basis = c.args.basis.now in
    subst (λ (i : Item). Moves (terms_of basis) (journal_of basis) c.args.at.now i c.meet_full.result c.meet_full.new.self) (sym c.in-QueueFull.is) (c.meet_full.ensures (settings_of basis) _)

pub returns-in-Leave : goal.returns-in-Leave
returns-in-Leave c =
    let basis = c.args.basis.now in
    subst (λ (i : Item). Moves (terms_of basis) (journal_of basis) c.args.at.now i c.leave.result c.leave.new.self) (sym c.in-Leave.is) (c.leave.ensures (terms_of basis) (journal_of basis))

pub returns-in-Reply : goal.returns-in-Reply
returns-in-Reply c =
    let basis = c.args.basis.now in
    subst (λ (i : Item). Moves (terms_of basis) (journal_of basis) c.args.at.now i c.reply.result c.reply.new.self) (sym c.in-Reply.is) (c.reply.ensures (terms_of basis) (journal_of basis))

pub returns-in-Refuse : goal.returns-in-Refuse
returns-in-Refuse c =
    let basis = c.args.basis.now in
    subst (λ (i : Item). Moves (terms_of basis) (journal_of basis) c.args.at.now i c.refuse.result c.refuse.new.self) (sym c.in-Refuse.is) (c.refuse.ensures (terms_of basis) (journal_of basis))

pub returns-in-Used : goal.returns-in-Used
returns-in-Used c =
    let basis = c.args.basis.now in
    subst (λ (i : Item). Moves (terms_of basis) (journal_of basis) c.args.at.now i c.measure.result c.measure.new.self) (sym c.in-Used.is) (c.measure.ensures basis.patience)

pub returns-in-Raise : goal.returns-in-Raise
returns-in-Raise c =
    let basis = c.args.basis.now in
    IfOk-weaker c.raise.result _ _ (λ allowed h. subst (λ (i : Item). Moves (terms_of basis) (journal_of basis) c.args.at.now i allowed c.raise.new.self) (sym c.in-Raise.is) (h (terms_of basis) (journal_of basis))) c.raise.ensures

pub returns-in-Found : goal.returns-in-Found
returns-in-Found c =
    let basis = c.args.basis.now in
    IfOk-weaker c.find.result _ _ (λ allowed h. subst (λ (i : Item). Moves (terms_of basis) (journal_of basis) c.args.at.now i allowed c.find.new.self) (sym c.in-Found.is) (h (terms_of basis) (journal_of basis))) c.find.ensures

pub returns-in-TimedOut : goal.returns-in-TimedOut
returns-in-TimedOut c =
    let basis = c.args.basis.now in
    subst (λ (i : Item). Moves (terms_of basis) (journal_of basis) c.args.at.now i c.time_out.result c.time_out.new.self) (sym c.in-TimedOut.is) (c.time_out.ensures basis.section.now basis.ledger.now.format basis.limit (journal_of basis))
