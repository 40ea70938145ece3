-- Laws of what bytes read as.
use Rattle.std.specs.Prelude.{◌≡◌, ℕ, ◌<◌, List, ◌++◌}
use Rattle.pgn_base.specs.declared.format.Format.{Format}
use Rattle.pgn_base.specs.declared.note.Note.{Note}
use Rattle.pgn_base.specs.Notes.{IsNote}
use Rattle.pgn_journal.specs.Bytes.{entry_length, spelled, filler, IsHead, IsEntryLength}
use Rattle.pgn_entry.specs.Reading.{Reading, AnEntry, AFiller, ReadsAs}

-- bytes read as one thing at most
abbrev pub ReadsAsOne : Type 0
ReadsAsOne = (format : Format) (bytes : List ℕ) (a b : Reading) → ReadsAs format bytes a → ReadsAs format bytes b → a ≡ b

-- an entry and any bytes after it read as its fields, and as nothing else
abbrev pub EntryReadsBack : Type 0
EntryReadsBack = (format : Format) (note : Note) (db xid pid : ℕ) (rest : List ℕ) → IsNote note → IsHead format db xid pid → 0 < db
    → (answer : Reading) → ReadsAs format (spelled format note db xid pid ++ rest) answer → answer ≡ AnEntry (entry_length format note) note db xid pid

-- a filler and any bytes after it read as its fields, and as nothing else
abbrev pub FillerReadsBack : Type 0
FillerReadsBack = (format : Format) (len xid pid : ℕ) (rest : List ℕ) → IsEntryLength format len → IsHead format 0 xid pid
    → (answer : Reading) → ReadsAs format (filler format len xid pid ++ rest) answer → answer ≡ AFiller len xid pid
