use Rattle.std.proofs.Common.{◌≡◌, ◌+◌, ◌<◌, ◌≤◌, true, length, reverse, take, get_or}
use Rattle.std.specs.List.{prefix_len}
use Rattle.pgn_language.specs.Tokens.{is_blank}
use Rattle.pgn_scenario.proofs.bytes.blanks_after.Given as goal

abbrev pub invariant-loop-end : goal.invariant-loop-end
invariant-loop-end l = record {
  within : l.end ≤ length l.bytes;
  value : prefix_len is_blank (reverse l.bytes) + l.end ≡ length l.bytes + prefix_len is_blank (reverse (take l.end l.bytes));
  blank : l.end < length l.bytes → is_blank (get_or l.bytes l.end 0) ≡ true;
}

abbrev pub decreases-loop-end : goal.decreases-loop-end
decreases-loop-end l = l.end
