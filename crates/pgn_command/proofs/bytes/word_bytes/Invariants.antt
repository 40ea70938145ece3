use Rattle.std.proofs.Common.{◌≡◌, ◌+◌, drop}
use Rattle.std.specs.List.{prefix_len}
use Rattle.pgn_language.specs.Tokens.{goes_on_word}
use Rattle.pgn_command.proofs.bytes.word_bytes.Given as goal

abbrev pub invariant-loop-at : goal.invariant-loop-at
invariant-loop-at l = prefix_len goes_on_word l.fn.bytes ≡ l.at + prefix_len goes_on_word (drop l.at l.fn.bytes)
