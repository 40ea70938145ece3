use Rattle.std.proofs.Common.{◌≡◌, take}
use Rattle.std.specs.Simd.Lanes.{mask_l}
use Rattle.pgn_lanes.specs.Behind.{plain_behind}
use Rattle.pgn_lanes.proofs.wakes.word_marks.Given as goal

abbrev pub invariant-loop-at : goal.invariant-loop-at
invariant-loop-at l = l.marks ≡ mask_l (plain_behind l.head l.db (take l.at l.pos) (take l.at l.dbs))
