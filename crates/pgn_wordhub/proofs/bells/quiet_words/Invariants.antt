use Rattle.std.proofs.Common.{◌≡◌, length}
use Rattle.pgn_wordhub.proofs.bells.quiet_words.Given as goal

abbrev pub invariant-loop-made : goal.invariant-loop-made
invariant-loop-made l = length l.words.items ≡ l._made
