use Rattle.std.proofs.Common.{length, refl}
use Rattle.std.proofs.lemmas.Result.{on_ok_weaker}
use Rattle.pgn_walk.proofs.LineLaws.{runs}
use Rattle.pgn_walk.proofs.standing.Standing.run.Goals as goal

pub returns : goal.returns
returns c =
    let channels = c.args.self.now.set.channels in
    on_ok_weaker c.give.result
    (runs c.args.self.now c.give.new.self c.args.command.now c.step.new.self c.in_ok-effect.effect channels (length channels) (λ is unfailed. refl) refl
    (rw c.in_ok-copy.ensures.equal at c.in_ok-effect.ensures.effect) (rw c.in_ok-copy.ensures.equal at c.in_ok-effect.ensures.state) (rw c.in_ok-copy.ensures.equal at c.in_ok-effect.ensures.list)) c.give.ensures
