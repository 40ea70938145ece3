-- Laws of the bytes of entries and fillers.
use Rattle.std.specs.Prelude.{◌≡◌, ℕ, ◌<◌, ◌≤◌, ◌^◌, List, [], ◌++◌, length, All}
use Rattle.pgn_base.specs.declared.format.Format.{Format}
use Rattle.pgn_base.specs.declared.note.Note.{Note}
use Rattle.pgn_base.specs.Notes.{IsNote}
use Rattle.pgn_journal.specs.Bytes.{header_bytes, page_bytes, entry_length, spelled, filler, IsHead, IsEntryLength}

-- an entry's bytes are as many as its length says
abbrev pub SpelledLength : Type 0
SpelledLength = (format : Format) (note : Note) (db xid pid : ℕ) → length (spelled format note db xid pid) ≡ entry_length format note

-- a filler's bytes are as many as its length says
abbrev pub FillerLength : Type 0
FillerLength = (format : Format) (len xid pid : ℕ) → header_bytes format ≤ len → length (filler format len xid pid) ≡ len

-- each notification's entry has such a length
abbrev pub EntryLengths : Type 0
EntryLengths = (format : Format) (note : Note) → IsNote note → IsEntryLength format (entry_length format note)

-- what an entry and a filler are made of is below 256
pub record AreBytes : Type 0 where
  pub of_entry : (format : Format) (note : Note) (db xid pid : ℕ) → IsNote note → All (λ byte. byte < 256) (spelled format note db xid pid)
  pub of_filler : (format : Format) (len xid pid : ℕ) → All (λ byte. byte < 256) (filler format len xid pid)

-- two entries have the same fields, and the same bytes follow them
pub record AreSame (a b : Note) (db db' xid xid' pid pid' : ℕ) (rest rest' : List ℕ) : Type 0 where
  pub same_note : a ≡ b
  pub same_db : db ≡ db'
  pub same_xid : xid ≡ xid'
  pub same_pid : pid ≡ pid'
  pub same_rest : rest ≡ rest'

-- bytes that begin with an entry begin with no other one
abbrev pub SpellingReadsBack : Type 0
SpellingReadsBack = (format : Format) (a b : Note) (db db' xid xid' pid pid' : ℕ) (rest rest' : List ℕ) → IsNote a → IsNote b
    → IsHead format db xid pid → IsHead format db' xid' pid'
    → spelled format a db xid pid ++ rest ≡ spelled format b db' xid' pid' ++ rest' → AreSame a b db db' xid xid' pid pid' rest rest'

-- an entry that begins another is the whole of it
abbrev pub NoSpellingBegins : Type 0
NoSpellingBegins = (format : Format) (a b : Note) (db db' xid xid' pid pid' : ℕ) (rest : List ℕ) → IsNote a → IsNote b → IsHead format db xid pid → IsHead format db' xid' pid'
    → spelled format a db xid pid ++ rest ≡ spelled format b db' xid' pid' → rest ≡ []

-- no bytes begin both with an entry and with a filler
abbrev pub NoSpellingIsFiller : Type 0
NoSpellingIsFiller = (format : Format) (note : Note) (db xid pid len xid' pid' : ℕ) (rest rest' : List ℕ) → 0 < db → db < 2 ^ 32
    → spelled format note db xid pid ++ rest ≡ filler format len xid' pid' ++ rest' → ⊥

-- two fillers have the same fields, and the same bytes follow them
pub record AreSameFillers (len len' xid xid' pid pid' : ℕ) (rest rest' : List ℕ) : Type 0 where
  pub same_len : len ≡ len'
  pub same_xid : xid ≡ xid'
  pub same_pid : pid ≡ pid'
  pub same_rest : rest ≡ rest'

-- bytes that begin with a filler begin with no other one
abbrev pub FillerReadsBack : Type 0
FillerReadsBack = (format : Format) (len len' xid xid' pid pid' : ℕ) (rest rest' : List ℕ) → len ≤ page_bytes → len' ≤ page_bytes
    → IsHead format 0 xid pid → IsHead format 0 xid' pid'
    → filler format len xid pid ++ rest ≡ filler format len' xid' pid' ++ rest' → AreSameFillers len len' xid xid' pid pid' rest rest'
