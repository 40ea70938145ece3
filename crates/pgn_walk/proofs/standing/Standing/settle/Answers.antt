use Rattle.std.proofs.lemmas.Result.{on_ok_weaker}
use Rattle.pgn_base.specs.Channels.{applied}
use Rattle.pgn_model.specs.Walk.{State}
use Rattle.pgn_walk.proofs.standing.Standing.settle.Goals as goal

pub returns : goal.returns
returns c = on_ok_weaker c.act-acted.result
    (λ acted. λ section journal s h.
    let after : State = record s { set = applied s.set c.args.actions } in
    c.leave_or_answer.ensures section journal after (acted section journal s h)) c.act-acted.ensures
