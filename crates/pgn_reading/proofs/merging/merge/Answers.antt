use Rattle.std.proofs.Common.{rules, All, subst, sym}
use Rattle.pgn_model.specs.declared.trace.Trace.{Trace}
use Rattle.std.proofs.lemmas.List.Elements.{All-get_or}
use Rattle.pgn_reading.specs.Bare.{bare}
use Rattle.pgn_reading.specs.Merged.{IsShownIn}
use Rattle.pgn_reading.specs.Slots.{HasPlaced}
use Rattle.pgn_reading.proofs.PartLaws.{part-here, part-more}
use Rattle.pgn_reading.proofs.SlotLaws.{placed-more, all-placed, taken-ok}
use Rattle.pgn_reading.proofs.merging.merge.Goals as goal

pub loop-trace-preserved : goal.loop-trace-preserved
loop-trace-preserved c =
    let was = c.args.traces.now in
    let i = c.loop-trace.trace-index in
    let here = part-here bare was c.loop-trace.traces i c.trace-item.result (search rules) c.loop-trace.invariant.bare in
    record {
      bare = part-more bare was c.loop-trace.traces i c.trace-item.result c.place_all.new.trace (search rules) c.loop-trace.invariant.bare c.in_ok-place_all.ensures.bare;
      placed = λ journal shows.
          let so_far = c.loop-trace.invariant.placed journal shows in
          let shown = All-get_or (λ t. All (IsShownIn journal t.session t.db) t.items) was i c.trace-item.result (search rules) shows.shown in
          placed-more journal was i c.trace-item.result c.loop-trace.slots.items c.place_all.new.slots.items (search rules) so_far
          (subst (λ (t : Trace). HasPlaced journal t.session t.db t.items c.loop-trace.slots.items c.place_all.new.slots.items) (sym here)
          (c.in_ok-place_all.ensures.placed journal so_far.part (subst (λ (t : Trace). All (IsShownIn journal t.session t.db) t.items) here shown)));
    }

pub returns-clause-merged : goal.returns-clause-merged
returns-clause-merged c = λ journal shows.
    taken-ok (λ txs. txs.items) journal c.args.traces.now c.loop-trace.slots.items c.taken.result shows
    (all-placed journal c.args.traces.now c.loop-trace.trace-index c.loop-trace.slots.items (search rules) (c.loop-trace.invariant.placed journal shows)) c.taken.ensures
