-- What the parts of bytes read as: the head, the body of an entry, the body of a filler.
use Rattle.std.specs.Prelude.{◌≡◌, ℕ, ◌≤◌, List, count_by}
use Rattle.pgn_base.specs.declared.format.Format.{Format}
use Rattle.pgn_base.specs.Notes.{IsNote}
use Rattle.pgn_journal.specs.Bytes.{entry_length}
use Rattle.pgn_entry.specs.declared.entry_fault.EntryFault.TheVariants.{Short, BadLength, NoNul, BadText, BadPad}
use Rattle.pgn_entry.specs.declared.head.Head.{Head}
use Rattle.pgn_entry.specs.Reading.{stated_length, stated_db, stated_xid, stated_pid, is_zero, note_of, padding_of, IsAllZero, HasHead, LacksZeros, HasBadTexts, HasBadPadding, Reading, AnEntry, AFiller, AFault}

-- bytes go on to be read by their body, and have this head
pub record IsHeadOf (format : Format) (bytes : List ℕ) (head : Head) : Type 0 where
  pub sound : HasHead format bytes
  pub len : head.len ≡ stated_length bytes
  pub db : head.db ≡ stated_db bytes
  pub xid : head.xid ≡ stated_xid format bytes
  pub pid : head.pid ≡ stated_pid format bytes

-- a body is that of an entry of this length
pub record IsWhole (format : Format) (len : ℕ) (bytes : List ℕ) : Type 0 where
  pub zeros : 2 ≤ count_by is_zero bytes
  pub valid : IsNote (note_of bytes)
  pub size : len ≡ entry_length format (note_of bytes)
  pub padding : IsAllZero (padding_of bytes)

-- what the body of an entry with this head reads as
abbrev pub BodyReadsAs : Format → Head → List ℕ → Reading → Type 0
BodyReadsAs format head bytes (AnEntry len note db xid pid) = IsWhole format head.len bytes × (AnEntry len note db xid pid ≡ AnEntry head.len (note_of bytes) head.db head.xid head.pid)
BodyReadsAs format head bytes (AFiller len xid pid) = ⊥
BodyReadsAs format head bytes (AFault Short) = ⊥
BodyReadsAs format head bytes (AFault BadLength) = ⊥
BodyReadsAs format head bytes (AFault NoNul) = LacksZeros bytes
BodyReadsAs format head bytes (AFault BadText) = ¬ (LacksZeros bytes) × HasBadTexts bytes
BodyReadsAs format head bytes (AFault BadPad) = ¬ (LacksZeros bytes) × ¬ (HasBadTexts bytes) × HasBadPadding format head.len bytes

-- what the body of a filler with this head reads as
abbrev pub FillerReadsAs : Head → List ℕ → Reading → Type 0
FillerReadsAs head bytes (AnEntry len note db xid pid) = ⊥
FillerReadsAs head bytes (AFiller len xid pid) = IsAllZero bytes × (AFiller len xid pid ≡ AFiller head.len head.xid head.pid)
FillerReadsAs head bytes (AFault Short) = ⊥
FillerReadsAs head bytes (AFault BadLength) = ⊥
FillerReadsAs head bytes (AFault NoNul) = ⊥
FillerReadsAs head bytes (AFault BadText) = ¬ (IsAllZero bytes)
FillerReadsAs head bytes (AFault BadPad) = ⊥
