use Rattle.std.proofs.Common.{rules, sym, ap, ◌∙◌}
use Rattle.pgn_model.specs.declared.item.Item.{Item}
use Rattle.pgn_reading.specs.Bare.{bare_item}
use Rattle.pgn_reading.specs.Merged.{finished}
use Rattle.pgn_reading.proofs.PartLaws.{part-here, part-more}
use Rattle.pgn_reading.proofs.SlotLaws.{placed-none, placed-one}
use Rattle.pgn_reading.proofs.merging.place_each.Goals as goal

pub loop-item-preserved-in_default : goal.loop-item-preserved-in_default
loop-item-preserved-in_default c =
    let was = c.args.items.now in
    let i = c.loop-item.item-index in
    let here = part-here bare_item was c.loop-item.items i c.item-item.result (search rules) c.loop-item.invariant.bare in
    record {
      bare = part-more bare_item was c.loop-item.items i c.item-item.result c.finished_of.new.item (search rules) c.loop-item.invariant.bare c.in_ok-shown.ensures.bare;
      placed = λ journal part shown.
          placed-none journal c.args.session c.args.db was i c.item-item.result c.args.slots.now.items c.loop-item.slots.items (search rules)
          (ap (λ (item : Item). finished c.args.session c.args.db item) here ∙ sym c.in_ok-shown.ensures.shown ∙ (search rules)) (c.loop-item.invariant.placed journal part shown);
    }

pub loop-item-preserved : goal.loop-item-preserved
loop-item-preserved c =
    let was = c.args.items.now in
    let i = c.loop-item.item-index in
    let here = part-here bare_item was c.loop-item.items i c.item-item.result (search rules) c.loop-item.invariant.bare in
    record {
      bare = part-more bare_item was c.loop-item.items i c.item-item.result c.finished_of.new.item (search rules) c.loop-item.invariant.bare c.in_ok-shown.ensures.bare;
      placed = λ journal part shown.
          placed-one journal c.args.session c.args.db was i c.item-item.result c.in-Some.shown c.args.slots.now.items c.loop-item.slots.items c.place.new.slots.items (search rules)
          (ap (λ (item : Item). finished c.args.session c.args.db item) here ∙ sym c.in_ok-shown.ensures.shown ∙ (search rules)) shown c.in_ok-place.ensures (c.loop-item.invariant.placed journal part shown);
    }
