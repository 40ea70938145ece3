use Rattle.std.proofs.Common.{ℕ, subst}
use Rattle.std.specs.Prelude.{flat_map}
use Rattle.pgn_walk.specs.Evidence.{stood_by}
use Rattle.pgn_walk.specs.Pairs.{Gathers}
use Rattle.pgn_walk.proofs.EvidenceLaws.{flat_end, flat_more}
use Rattle.pgn_walk.proofs.PairLaws.{gathered_all, gathered_first, gathered_more}
use Rattle.pgn_walk.proofs.evidence.stand_all.Goals as goal

pub loop-item-init : goal.loop-item-init
loop-item-init c = gathered_first c.args.pairs.now (flat_map (stood_by c.args.session) c.args.items.now)

pub loop-item-preserved : goal.loop-item-preserved
loop-item-preserved c =
    gathered_more c.args.pairs.now c.loop-item.pairs c.stand.new.pairs _ (stood_by c.args.session c.item-item.result) _ _ c.loop-item.invariant
    (subst (λ (s : ℕ). Gathers c.loop-item.pairs c.stand.new.pairs (stood_by s c.item-item.result)) c.get.ensures.value c.in_ok-stand.ensures)
    (flat_more (stood_by c.args.session) c.args.items.now c.loop-item.item-index c.item-item.result c.loop-item-test.true c.item-item.is)

pub returns : goal.returns
returns c = gathered_all c.args.pairs.now c.loop-item.pairs _ _ c.loop-item.invariant (flat_end (stood_by c.args.session) c.args.items.now c.loop-item.item-index c.loop-item-test.false)
