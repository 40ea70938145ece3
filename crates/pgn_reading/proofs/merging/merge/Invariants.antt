use Rattle.std.proofs.Common.{◌≡◌, List, ◌++◌, map, take, drop}
use Rattle.pgn_journal.specs.declared.tx.Tx.{Tx}
use Rattle.pgn_reading.specs.Bare.{bare}
use Rattle.pgn_reading.specs.Merged.{ShowsJournal}
use Rattle.pgn_reading.specs.Slots.{HasPlacedAll}
use Rattle.pgn_reading.proofs.merging.merge.Given as goal

abbrev pub invariant-loop-trace : goal.invariant-loop-trace
invariant-loop-trace l = record {
  bare : l.traces ≡ map bare (take l.trace-index l.fn.traces) ++ drop l.trace-index l.fn.traces;
  placed : (journal : List Tx) → ShowsJournal journal l.fn.traces → HasPlacedAll journal (take l.trace-index l.fn.traces) l.slots.items;
}
