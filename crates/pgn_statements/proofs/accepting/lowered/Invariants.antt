use Rattle.std.proofs.Common.{◌≡◌, ◌++◌, drop}
use Rattle.std.specs.Prelude.{filter}
use Rattle.std.specs.Str.{str_to_ascii_lowercase}
use Rattle.pgn_statements.specs.Choices.{is_kept}
use Rattle.pgn_statements.proofs.accepting.lowered.Given as goal

-- what is made so far and what is still to be kept are all
abbrev pub invariant-loop-byte : goal.invariant-loop-byte
invariant-loop-byte l = l.made.items ++ str_to_ascii_lowercase (filter (is_kept l.fn.letters) (drop l.byte-index l.bytes)) ≡ str_to_ascii_lowercase (filter (is_kept l.fn.letters) l.bytes)
