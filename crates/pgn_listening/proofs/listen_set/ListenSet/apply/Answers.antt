use Rattle.std.proofs.Common.{◌∙◌, ◌∷◌, [], ap, sym, arith, length-append, List, ℕ}
use Rattle.pgn_base.specs.Channels.{after_action}
use Rattle.pgn_listening.proofs.ListeningLaws.{applied-push}
use Rattle.pgn_listening.proofs.listen_set.ListenSet.apply.Goals as goal

pub loop-action-preserved : goal.loop-action-preserved
loop-action-preserved c =
    let before = c.loop-action.invariant in (
      tt,
      tt,
      c.act.ensures.channels ∙ ap (λ (set : List (List ℕ)). after_action set c.in-Some.action) before.2 ∙ sym (applied-push c.args.self.now.channels c.loop-action.yielded c.in-Some.action),
      omega (arith, c.act.ensures.room, before.3, length-append c.loop-action.yielded (c.in-Some.action ∷ [])),
    )
