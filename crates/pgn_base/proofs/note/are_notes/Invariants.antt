use Rattle.std.proofs.Common.{ℕ, ◌<◌, get_or}
use Rattle.pgn_base.specs.declared.note.Note.{Note}
use Rattle.pgn_base.specs.Notes.{IsNote}
use Rattle.pgn_base.proofs.note.are_notes.Given as goal

abbrev pub invariant-loop-note : goal.invariant-loop-note
invariant-loop-note l = (k : ℕ) (d : Note) → k < l.note-index → IsNote (get_or l.notes k d)
