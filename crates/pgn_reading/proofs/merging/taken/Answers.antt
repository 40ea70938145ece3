use Rattle.std.proofs.Common.{rules}
use Rattle.pgn_reading.proofs.SlotLaws.{taken-none, taken-one}
use Rattle.pgn_reading.proofs.merging.taken.Goals as goal

pub loop-slot-preserved-in_default : goal.loop-slot-preserved-in_default
loop-slot-preserved-in_default c = taken-none c.loop-slot.yielded c.in-Some.slot c.loop-slot.txs.items (search rules) c.loop-slot.invariant

pub loop-slot-preserved : goal.loop-slot-preserved
loop-slot-preserved c = taken-one c.loop-slot.yielded c.in-Some.slot c.loop-slot.txs.items c.push.new.self.items c.in-Some-slot.tx (search rules) c.in_ok-push.ensures.items c.loop-slot.invariant
