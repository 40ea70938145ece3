use Rattle.std.proofs.Common.{◌≡◌, ◌+◌, ◌*◌, ◌≤◌, drop, fold}
use Rattle.pgn_journal.specs.Packing.{put}
use Rattle.pgn_ledger.specs.Places.{most_cells}
use Rattle.pgn_ledger.proofs.packing.put_all.Given as goal

abbrev pub invariant-loop-note : goal.invariant-loop-note
invariant-loop-note l = record {
  same : fold (put l.format) l.end (drop l.note-index l.notes) ≡ fold (put l.format) l.at l.notes;
  within : l.end ≤ l.at + most_cells * l.note-index;
}
