use Rattle.std.proofs.Common.{◌≡◌, ◌+◌, ◌-◌, ◌≤◌, not, length, drop}
use Rattle.std.specs.List.{prefix_len}
use Rattle.pgn_language.specs.Lines.{is_gap}
use Rattle.pgn_scenario.proofs.bytes.part_bytes.Given as goal

abbrev pub invariant-loop-at : goal.invariant-loop-at
invariant-loop-at l = record {
  within : l.at ≤ length l.bytes;
  value : prefix_len (λ byte. not (is_gap byte)) l.bytes ≡ l.at + prefix_len (λ byte. not (is_gap byte)) (drop l.at l.bytes);
}

abbrev pub decreases-loop-at : goal.decreases-loop-at
decreases-loop-at l = length l.bytes - l.at
