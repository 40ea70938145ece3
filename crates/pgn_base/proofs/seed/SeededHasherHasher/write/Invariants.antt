use Rattle.std.proofs.Common.{◌≡◌, ◌-◌, ◌/◌, ◌%◌, ◌≤◌, length}
use Rattle.pgn_base.specs.Hashes.{mixed_words}
use Rattle.pgn_base.proofs.seed.SeededHasherHasher.write.Given as goal

abbrev pub invariant-loop-at : goal.invariant-loop-at
invariant-loop-at l = (l.at % 8 ≡ 0) × (l.at ≤ length l.bytes) × (l.state ≡ mixed_words l.initial.self.multiplier l.bytes l.initial.state (l.at / 8))

abbrev pub decreases-loop-at : goal.decreases-loop-at
decreases-loop-at l = length l.bytes - l.at
