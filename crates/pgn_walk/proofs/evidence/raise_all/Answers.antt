use Rattle.std.proofs.Common.{◌+◌, ℕ, List, Option, None, drop, ap, sym, ◌∙◌, subst, arith}
use Rattle.pgn_reading.specs.Shown.{raised_from}
use Rattle.pgn_walk.specs.Evidence.{raised_by}
use Rattle.pgn_walk.specs.Pairs.{HasGathered}
use Rattle.pgn_walk.proofs.EvidenceLaws.{raised_none, raised_on_line, raised_on_other}
use Rattle.pgn_walk.proofs.PairLaws.{gathered_all, gathered_more}
use Rattle.pgn_walk.proofs.evidence.raise_all.Goals as goal

pub loop-item-preserved-then-begins_line : goal.loop-item-preserved-then-begins_line
loop-item-preserved-then-begins_line c =
    let items = c.args.items.now in
    let lines = c.args.lines.now in
    let k = c.loop-item.item-index in
    let next = c.loop-item.next in
    let on = raised_on_line c.loop-item.flag lines next items k c.item-item.result c.loop-item-test.true c.item-item.is (sym c.begins_line.ensures ∙ c.if-begins_line.true)
    ∙ ap (λ (f : Option ℕ). raised_from f (drop (next + 1) lines) (drop (k + 1) items)) (sym c.flag_of-flag.ensures) in
    record {
      gathered = subst (λ (left : List (ℕ × ℕ)). HasGathered c.args.pairs.now c.loop-item.pairs (raised_from None lines items) left) on c.loop-item.invariant.gathered;
      few = omega (arith, c.loop-item.invariant.few);
    }

pub loop-item-preserved : goal.loop-item-preserved
loop-item-preserved c =
    let items = c.args.items.now in
    let lines = c.args.lines.now in
    let k = c.loop-item.item-index in
    let next = c.loop-item.next in
    let on = raised_on_other c.loop-item.flag (drop next lines) items k c.item-item.result c.loop-item-test.true c.item-item.is (sym c.begins_line.ensures ∙ c.if-begins_line.false) in
    record {
      gathered = gathered_more c.args.pairs.now c.loop-item.pairs c.raise.new.pairs (raised_from None lines items) (raised_by c.loop-item.flag c.item-item.result) (raised_from c.loop-item.flag (drop next lines) (drop k items))
          (raised_from c.loop-item.flag (drop next lines) (drop (k + 1) items)) c.loop-item.invariant.gathered c.in_ok-raise.ensures on;
      few = omega (arith, c.loop-item.invariant.few);
    }

pub returns : goal.returns
returns c =
    gathered_all c.args.pairs.now c.loop-item.pairs (raised_from None c.args.lines.now c.args.items.now) (raised_from c.loop-item.flag (drop c.loop-item.next c.args.lines.now) (drop c.loop-item.item-index c.args.items.now))
    c.loop-item.invariant.gathered (raised_none c.loop-item.flag (drop c.loop-item.next c.args.lines.now) c.args.items.now c.loop-item.item-index c.loop-item-test.false)
