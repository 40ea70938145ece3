use Rattle.std.proofs.Common.{◌+◌, ◌≤◌, take}
use Rattle.indexmap.specs.IndexMap.{spare}
use Rattle.pgn_listening.specs.Listening.{AreThere}
use Rattle.pgn_listening.proofs.listen_set.put_all.Given as goal

abbrev pub invariant-loop-at : goal.invariant-loop-at
invariant-loop-at l = record {
  there : AreThere (take l.at l.places) l.index.entries;
  room : spare l.fn.index ≤ spare l.index + l.at;
}
