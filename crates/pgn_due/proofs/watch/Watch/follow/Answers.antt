use Rattle.std.proofs.Common.{◌≡◌, refl, sym, subst}
use Rattle.std.proofs.lemmas.Result.{on_ok_weaker}
use Rattle.pgn_base.specs.Channels.{after_action}
use Rattle.pgn_base.specs.declared.action.Action.{Action}
use Rattle.pgn_due.specs.Next.{Changes}
use Rattle.pgn_due.proofs.WatchLaws.{listened, unlistened, unlistened_all}
use Rattle.pgn_due.proofs.watch.Watch.follow.Goals as goal

pub returns-in-Listen : goal.returns-in-Listen
returns-in-Listen c = on_ok_weaker c.put.result
    (λ h. subst (λ (a : Action). Changes c.args.from c.args.self.now (λ set other. other ≡ after_action set a) c.put.new.self) (sym c.in-Listen.is) (listened c.args.self.now c.put.new.self c.args.from c.in-Listen.name h)) c.put.ensures

pub returns-in-Unlisten : goal.returns-in-Unlisten
returns-in-Unlisten c = on_ok_weaker c.take_out.result
    (λ h. subst (λ (a : Action). Changes c.args.from c.args.self.now (λ set other. other ≡ after_action set a) c.take_out.new.self) (sym c.in-Unlisten.is) (unlistened c.args.self.now c.take_out.new.self c.args.from c.in-Unlisten.name h))
    c.take_out.ensures

pub returns-in-UnlistenAll : goal.returns-in-UnlistenAll
returns-in-UnlistenAll c =
    let old = c.args.self.now in
    let new = record old { next = c.clear.new.self } in
    subst (λ (a : Action). Changes c.args.from old (λ set other. other ≡ after_action set a) new) (sym c.in-UnlistenAll.is) (unlistened_all old new c.args.from refl refl c.clear.ensures.empty)
