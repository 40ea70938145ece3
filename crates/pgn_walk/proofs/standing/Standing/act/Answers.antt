use Rattle.std.proofs.Common.{List, subst}
use Rattle.pgn_base.specs.declared.action.Action.{Action}
use Rattle.pgn_walk.specs.Standing.{IsReadyFor}
use Rattle.pgn_walk.proofs.CommitLaws.{acts_ready}
use Rattle.pgn_walk.proofs.standing.Standing.act.Goals as goal

pub returns-in-Ok : goal.returns-in-Ok
returns-in-Ok c =
    let ready = subst (λ (them : List Action). IsReadyFor them c.args.self.now c.watch_for.new.self) c.as_slice.ensures c.in-Ok.ensures in
    acts_ready c.args.self.now c.watch_for.new.self c.apply.new.self c.args.actions ready c.apply.ensures.channels
