use Rattle.std.proofs.Common.{◌-◌, ◌+◌, length}
use Rattle.pgn_reading.specs.Slots.{GoesOnEmpty}
use Rattle.pgn_reading.proofs.merging.widen.Given as goal

abbrev pub invariant-loop-slots : goal.invariant-loop-slots
invariant-loop-slots l = GoesOnEmpty l.fn.slots.items l.slots.items l.fn.place

abbrev pub decreases-loop-slots : goal.decreases-loop-slots
decreases-loop-slots l = (l.fn.place + 1) - length l.slots.items
