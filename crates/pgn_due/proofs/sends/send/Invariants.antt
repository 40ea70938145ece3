use Rattle.std.proofs.Common.{◌≡◌, List, Some, take}
use Rattle.std.specs.Prelude.{slice_get}
use Rattle.pgn_journal.specs.declared.tx.Tx.{Tx}
use Rattle.pgn_due.proofs.SendLaws.{Shown}
use Rattle.pgn_due.proofs.sends.send.Given as goal

abbrev pub invariant-loop-note : goal.invariant-loop-note
invariant-loop-note l = (journal : List Tx) → slice_get journal l.at ≡ Some l.tx → Shown journal l.at l.tx (take l.note l.tx.notes) l.fn.spots.items l.spots.items
