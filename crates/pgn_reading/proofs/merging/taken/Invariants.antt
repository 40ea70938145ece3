use Rattle.std.proofs.Common.{◌≡◌, filter_map}
use Rattle.pgn_reading.proofs.merging.taken.Given as goal

abbrev pub invariant-loop-slot : goal.invariant-loop-slot
invariant-loop-slot l = l.txs.items ≡ filter_map (λ slot. slot) l.yielded
