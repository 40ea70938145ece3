use Rattle.std.proofs.Common.{◌≡◌, map, take}
use Rattle.pgn_requests.specs.Values.{shown_byte}
use Rattle.pgn_statements.proofs.accepting.shown_bytes.Given as goal

abbrev pub invariant-loop-byte : goal.invariant-loop-byte
invariant-loop-byte l = l.made.items ≡ map shown_byte (take l.byte-index l.bytes)
