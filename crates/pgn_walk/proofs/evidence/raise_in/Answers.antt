use Rattle.std.proofs.Common.{List, None, sym, ap, ◌∙◌, subst}
use Rattle.pgn_language.specs.declared.scenario.Section.{Section}
use Rattle.pgn_model.specs.declared.trace.Trace.{Trace}
use Rattle.pgn_language.specs.declared.scenario.ScriptLine.{ScriptLine}
use Rattle.pgn_model.specs.declared.item.Item.{Item}
use Rattle.pgn_reading.specs.Shown.{raised_from, raised_in}
use Rattle.pgn_walk.specs.Pairs.{Gathers}
use Rattle.pgn_walk.proofs.EvidenceLaws.{raised_end, raised_more}
use Rattle.pgn_walk.proofs.PairLaws.{gathered_all, gathered_first, gathered_more}
use Rattle.pgn_walk.proofs.evidence.raise_in.Goals as goal

pub loop-at-init : goal.loop-at-init
loop-at-init c = gathered_first c.args.pairs.now (raised_in c.args.sections.now c.args.traces.now)

pub loop-at-preserved : goal.loop-at-preserved
loop-at-preserved c =
    let s = c.index-sections-at.result in
    let t = c.index-traces-at.result in
    gathered_more c.args.pairs.now c.loop-at.pairs c.raise_all.new.pairs _ (raised_from None s.lines t.items) _ _ c.loop-at.invariant
    (subst (λ (items : List Item). Gathers c.loop-at.pairs c.raise_all.new.pairs (raised_from None s.lines items)) (c.as_slice-in-loop-at.ensures ∙ ap (λ (x : Trace). x.items) (sym c.index-traces-at.is))
    (subst (λ (lines : List ScriptLine). Gathers c.loop-at.pairs c.raise_all.new.pairs (raised_from None lines c.as_slice-in-loop-at.result.now)) (c.as_slice.ensures ∙ ap (λ (x : Section). x.lines) (sym c.index-sections-at.is)) c.in_ok-raise_all.ensures))
    (raised_more c.args.sections.now c.args.traces.now c.loop-at.at s t c.requires c.loop-at-test.true c.index-sections-at.is c.index-traces-at.is)

pub returns : goal.returns
returns c = gathered_all c.args.pairs.now c.loop-at.pairs _ _ c.loop-at.invariant (raised_end c.args.sections.now c.args.traces.now c.loop-at.at c.requires c.loop-at-test.false)
