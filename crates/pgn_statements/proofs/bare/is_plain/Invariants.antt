use Rattle.std.proofs.Common.{◌≡◌, length}
use Rattle.pgn_statements.specs.Modes.{is_calm}
use Rattle.pgn_statements.proofs.bare.is_plain.Given as goal

abbrev pub invariant-loop-at : goal.invariant-loop-at
invariant-loop-at l = is_calm 0 l.text ≡ is_calm l.before l.rest

abbrev pub decreases-loop-at : goal.decreases-loop-at
decreases-loop-at l = length l.rest
