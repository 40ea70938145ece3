use Rattle.std.proofs.Common.{◌≡◌, ◌+◌, drop}
use Rattle.std.specs.List.{prefix_len}
use Rattle.pgn_requests.specs.Texts.{is_tail}
use Rattle.pgn_statements.proofs.bare.head_end.Given as goal

abbrev pub invariant-loop-at : goal.invariant-loop-at
invariant-loop-at l = prefix_len is_tail l.fn.bytes ≡ l.at + prefix_len is_tail (drop l.at l.fn.bytes)
