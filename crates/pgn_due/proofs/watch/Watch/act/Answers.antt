use Rattle.std.proofs.Common.{◌≡◌, ◌+◌, ◌++◌, ◌∷◌, [], ℕ, List, Option, take, ap, sym, subst, ◌∙◌}
use Rattle.std.proofs.lemmas.List.{take_all, take_more}
use Rattle.pgn_base.specs.Channels.{applied}
use Rattle.pgn_base.specs.declared.action.Action.{Action}
use Rattle.pgn_due.specs.Sent.{sent_before}
use Rattle.pgn_due.specs.Next.{IsWatch}
use Rattle.pgn_due.proofs.WatchLaws.{HasActed, acted_first, acted_more, acts_at, journal_of}
use Rattle.pgn_due.proofs.watch.Watch.act.Goals as goal

pub loop-action-init : goal.loop-action-init
loop-action-init c = acted_first c.start-from.result c.args.self.now

pub loop-action-preserved : goal.loop-action-preserved
loop-action-preserved c =
    let before = take c.loop-action.action-index c.args.actions.now in
    let more : before ++ c.action-item.result ∷ [] ≡ take (c.loop-action.action-index + 1) c.args.actions.now =
    ap (λ (a : Action). before ++ a ∷ []) c.action-item.is ∙ sym (take_more c.args.actions.now c.loop-action.action-index c.action-item.result c.loop-action-test.true) in
    subst (λ (actions : List Action). HasActed c.start-from.result c.args.self.now actions c.follow.new.self) more
    (acted_more c.start-from.result c.args.self.now c.loop-action.self c.follow.new.self before c.action-item.result c.loop-action.invariant c.in_ok-follow.ensures)

pub returns : goal.returns
returns c = λ journal db set h.
    let mark : ℕ = c.in-Some.mark in
    let is : c.start-from.result ≡ sent_before (journal_of c.args.self.now) mark = c.start-from.ensures ∙ ap (λ (x : ℕ). sent_before (journal_of c.args.self.now) x) c.get.ensures.value in
    let done = subst (λ (actions : List Action). HasActed c.start-from.result c.args.self.now actions c.loop-action.self) (take_all c.loop-action.action-index c.args.actions.now c.loop-action-test.false) c.loop-action.invariant in
    let at = subst (λ (m : Option ℕ). IsWatch journal db set m c.args.self.now) c.in-Some.is h in
    subst (λ (m : Option ℕ). IsWatch journal db (applied set c.args.actions.now) m c.loop-action.self) (sym c.in-Some.is) (acts_at journal db mark set c.start-from.result c.args.self.now c.loop-action.self c.args.actions.now is done at)
