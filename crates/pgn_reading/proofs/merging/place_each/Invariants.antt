use Rattle.std.proofs.Common.{◌≡◌, List, ◌++◌, map, take, drop, All}
use Rattle.pgn_journal.specs.declared.tx.Tx.{Tx}
use Rattle.pgn_reading.specs.Bare.{bare_item}
use Rattle.pgn_reading.specs.Merged.{IsShownIn}
use Rattle.pgn_reading.specs.Slots.{IsPartOf, HasPlaced}
use Rattle.pgn_reading.proofs.merging.place_each.Given as goal

abbrev pub invariant-loop-item : goal.invariant-loop-item
invariant-loop-item l = record {
  bare : l.items ≡ map bare_item (take l.item-index l.fn.items) ++ drop l.item-index l.fn.items;
  placed : (journal : List Tx) → IsPartOf journal l.fn.slots.items → All (IsShownIn journal l.session l.db) l.fn.items
      → HasPlaced journal l.session l.db (take l.item-index l.fn.items) l.fn.slots.items l.slots.items;
}
