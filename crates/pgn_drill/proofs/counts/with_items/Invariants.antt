use Rattle.std.proofs.Common.{◌≡◌, ◌+◌, drop}
use Rattle.std.specs.Prelude.{sum_by}
use Rattle.pgn_model.specs.Text.{received_by}
use Rattle.pgn_drill.proofs.counts.with_items.Given as goal

abbrev pub invariant-loop-item : goal.invariant-loop-item
invariant-loop-item l = l.count + sum_by received_by (drop l.item-index l.items) ≡ l.before + sum_by received_by l.items
