use Rattle.pgn_lanes.specs.Behind.{plain_behind}
use Rattle.pgn_lanes.proofs.WakeLaws.{IsMarked}
use Rattle.pgn_lanes.proofs.wakes.behind.Given as goal

abbrev pub invariant-loop-word : goal.invariant-loop-word
invariant-loop-word l = IsMarked (plain_behind l.head l.db l.pos l.dbs) l.word l.mask
