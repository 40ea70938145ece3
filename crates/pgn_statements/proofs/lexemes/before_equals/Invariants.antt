use Rattle.std.proofs.Common.{◌≡◌, ◌+◌, drop}
use Rattle.std.specs.List.{prefix_len}
use Rattle.pgn_requests.specs.Phrases.{is_before_equals}
use Rattle.pgn_statements.proofs.lexemes.before_equals.Given as goal

abbrev pub invariant-loop-at : goal.invariant-loop-at
invariant-loop-at l = prefix_len is_before_equals l.fn.bytes ≡ l.at + prefix_len is_before_equals (drop l.at l.fn.bytes)
