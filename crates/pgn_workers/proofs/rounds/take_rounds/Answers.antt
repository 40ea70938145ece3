use Rattle.std.proofs.Common.{Ok, ap}
use Rattle.pgn_workers.specs.Parts.{part}
use Rattle.pgn_workers.proofs.rounds.take_rounds.Goals as goal

pub loop-init : goal.loop-init
loop-init g c = record { goes = c.requires.goes; took = c.laws.ensures.took_none (part c.args.workers.now c.args.hand.now) c.requires.goes }

pub take_round-requires : goal.take_round-requires
take_round-requires g c = record { goes = c.loop.invariant.goes }

pub returns-in_err-turn-clause-took : goal.returns-in_err-turn-clause-took
returns-in_err-turn-clause-took g c =
    c.laws.ensures.took_more (part c.args.workers.now c.args.hand.now) (part c.loop.workers c.loop.hand) (part c.take_round.new.workers c.take_round.new.hand) c.loop.invariant.took c.take_round.ensures.took

pub returns-in-Ended-clause-took : goal.returns-in-Ended-clause-took
returns-in-Ended-clause-took g c =
    c.laws.ensures.took_more (part c.args.workers.now c.args.hand.now) (part c.loop.workers c.loop.hand) (part c.take_round.new.workers c.take_round.new.hand) c.loop.invariant.took c.take_round.ensures.took

pub returns-in-Ended-clause-over : goal.returns-in-Ended-clause-over
returns-in-Ended-clause-over g c = c.in_ok-turn.ensures.over (ap Ok c.in-Ended.is)

pub wait_behind-waits-requires-clause-goes : goal.wait_behind-waits-requires-clause-goes
wait_behind-waits-requires-clause-goes g c =
    c.laws.ensures.goes_on (part c.loop.workers c.loop.hand) (part c.take_round.new.workers c.take_round.new.hand) c.loop.invariant.goes c.take_round.ensures.took c.in_ok-turn.ensures.ready

pub wait_behind-waits-requires-clause-ready : goal.wait_behind-waits-requires-clause-ready
wait_behind-waits-requires-clause-ready g c = c.in_ok-turn.ensures.ready

pub loop-preserved : goal.loop-preserved
loop-preserved g c =
    let before = part c.loop.workers c.loop.hand in
    let behind = part c.take_round.new.workers c.take_round.new.hand in
    let now = part c.wait_behind-waits.new.workers c.wait_behind-waits.new.hand in
    let took = c.laws.ensures.took_more before behind now c.take_round.ensures.took c.wait_behind-waits.ensures.took in
    record {
      goes = c.laws.ensures.goes_on before now c.loop.invariant.goes took c.wait_behind-waits.ensures.ready;
      took = c.laws.ensures.took_more (part c.args.workers.now c.args.hand.now) before now c.loop.invariant.took took;
    }
