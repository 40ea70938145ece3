use Rattle.std.proofs.Common.{List, subst}
use Rattle.std.specs.Prelude.{flat_map}
use Rattle.pgn_model.specs.declared.item.Item.{Item}
use Rattle.pgn_walk.specs.Evidence.{stood_by, stood_in}
use Rattle.pgn_walk.specs.Pairs.{Gathers}
use Rattle.pgn_walk.proofs.EvidenceLaws.{stood_end, stood_more}
use Rattle.pgn_walk.proofs.PairLaws.{gathered_all, gathered_first, gathered_more}
use Rattle.pgn_walk.proofs.evidence.stand_in.Goals as goal

pub loop-trace-init : goal.loop-trace-init
loop-trace-init c = gathered_first c.args.pairs.now (stood_in c.args.traces.now)

pub loop-trace-preserved : goal.loop-trace-preserved
loop-trace-preserved c =
    let t = c.trace-item.result in
    gathered_more c.args.pairs.now c.loop-trace.pairs c.stand_all.new.pairs _ (flat_map (stood_by t.session) t.items) _ _ c.loop-trace.invariant
    (subst (λ (items : List Item). Gathers c.loop-trace.pairs c.stand_all.new.pairs (flat_map (stood_by t.session) items)) c.as_slice.ensures c.in_ok-stand_all.ensures)
    (stood_more c.args.traces.now c.loop-trace.trace-index t c.loop-trace-test.true c.trace-item.is)

pub returns : goal.returns
returns c = gathered_all c.args.pairs.now c.loop-trace.pairs _ _ c.loop-trace.invariant (stood_end c.args.traces.now c.loop-trace.trace-index c.loop-trace-test.false)
