use Rattle.std.proofs.Common.{◌≡◌, drop}
use Rattle.std.specs.Prelude.{bytes_eq}
use Rattle.pgn_walk.specs.Same.{same_by}
use Rattle.pgn_walk.proofs.same.compare_names.Given as goal

abbrev pub invariant-loop-at : goal.invariant-loop-at
invariant-loop-at l = same_by bytes_eq (drop l.at l.a) (drop l.at l.b) ≡ same_by bytes_eq l.a l.b
