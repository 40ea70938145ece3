use Rattle.std.proofs.Common.{◌≡◌, ◌+◌, ◌<◌, ◌≤◌, true, length, take, get_or}
use Rattle.std.specs.List.{suffix_len}
use Rattle.pgn_requests.specs.Texts.{is_tail}
use Rattle.pgn_statements.proofs.bare.tail_start.Given as goal

abbrev pub invariant-loop-end : goal.invariant-loop-end
invariant-loop-end l = record {
  within : l.end ≤ length l.bytes;
  value : l.end + suffix_len is_tail l.bytes ≡ length l.bytes + suffix_len is_tail (take l.end l.bytes);
  tail : l.end < length l.bytes → is_tail (get_or l.bytes l.end 0) ≡ true;
}

abbrev pub decreases-loop-end : goal.decreases-loop-end
decreases-loop-end l = l.end
