use Rattle.std.proofs.Common.{◌≡◌, map, take}
use Rattle.pgn_requests.specs.Texts.{unbroken}
use Rattle.pgn_statements.proofs.single_line.unbroken_bytes.Given as goal

abbrev pub invariant-loop-byte : goal.invariant-loop-byte
invariant-loop-byte l = l.made.items ≡ map unbroken (take l.byte-index l.text)
