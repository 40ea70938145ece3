use Rattle.std.proofs.Common.{◌≡◌, drop}
use Rattle.std.specs.List.{list_any}
use Rattle.pgn_statements.specs.Choices.{is_same}
use Rattle.pgn_statements.proofs.choices.is_among.Given as goal

abbrev pub invariant-loop-word : goal.invariant-loop-word
invariant-loop-word l = list_any (λ word. is_same l.fn.cased word.now l.fn.bytes) (drop l.word-index l.words) ≡ list_any (λ word. is_same l.fn.cased word.now l.fn.bytes) l.words
