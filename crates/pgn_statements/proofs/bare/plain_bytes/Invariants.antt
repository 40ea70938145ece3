use Rattle.std.proofs.Common.{◌≡◌, ◌≤◌, ◌++◌, drop}
use Rattle.pgn_requests.specs.Texts.{plain, plain_from}
use Rattle.pgn_statements.specs.Modes.{depth_of}
use Rattle.pgn_statements.proofs.bare.plain_bytes.Given as goal

abbrev pub invariant-loop-byte : goal.invariant-loop-byte
invariant-loop-byte l = record {
  made : l.made.items ++ plain_from l.mode (drop l.byte-index l.text) ≡ plain l.text;
  depth : depth_of l.mode ≤ l.byte-index;
}
