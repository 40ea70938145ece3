use Rattle.std.proofs.Common.{◌≡◌, ◌*◌, take}
use Rattle.std.specs.Simd.Lanes.{mask_l}
use Rattle.pgn_lanes.specs.Behind.{plain_behind}
use Rattle.pgn_lanes.proofs.wakes.whole_marks.Given as goal

abbrev pub invariant-loop-block : goal.invariant-loop-block
invariant-loop-block l = l.marks ≡ mask_l (plain_behind l.head l.db (take (l.block * 8) l.pos) (take (l.block * 8) l.dbs))
