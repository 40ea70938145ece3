use Rattle.std.proofs.Common.{◌≡◌, drop}
use Rattle.pgn_answers.specs.Savepoints.{same_note}
use Rattle.pgn_walk.specs.Same.{same_by}
use Rattle.pgn_walk.proofs.same.compare_notes.Given as goal

abbrev pub invariant-loop-at : goal.invariant-loop-at
invariant-loop-at l = same_by same_note (drop l.at l.a) (drop l.at l.b) ≡ same_by same_note l.a l.b
