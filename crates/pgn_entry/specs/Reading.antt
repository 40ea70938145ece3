-- What bytes read as: the entry or the filler that they begin with, or their first fault.
use Rattle.std.specs.Prelude.{◌≡◌, ◌≢◌, ℕ, ◌<◌, ◌%◌, ◌==◌, ◌⊎◌, Bool, List, [], ◌++◌, length, drop, slice_range, count_by, All, Result, Ok, Err}
use Rattle.std.specs.List.{before_first, after_first}
use Rattle.std.specs.Int.{w32, w64, from_le_bytes}
use Rattle.pgn_base.specs.declared.format.Format.{Format}
use Rattle.pgn_base.specs.declared.format.Format.TheVariants.{One, Two}
use Rattle.pgn_base.specs.declared.note.Note.{Note}
use Rattle.pgn_base.specs.Texts.{IsName, IsPayload}
use Rattle.pgn_base.specs.Notes.{IsNote}
use Rattle.pgn_journal.specs.Bytes.{header_bytes, alignment, least_bytes, page_bytes, entry_length, spelled, filler, IsHead, IsEntryLength}
use Rattle.pgn_entry.specs.declared.entry_fault.EntryFault.{EntryFault}
use Rattle.pgn_entry.specs.declared.entry_fault.EntryFault.TheVariants.{Short, BadLength, NoNul, BadText, BadPad}
use Rattle.pgn_entry.specs.declared.entry_view.EntryView.{EntryView}
use Rattle.pgn_entry.specs.declared.entry_view.EntryView.TheVariants.{Entry, Filler}

-- the number in the four bytes from a place on, the lowest first
unfoldable pub number_at : ℕ → List ℕ → ℕ
number_at place bytes = from_le_bytes w32 (drop place bytes)

-- the number in the eight bytes from a place on, the lowest first
unfoldable pub long_at : ℕ → List ℕ → ℕ
long_at place bytes = from_le_bytes w64 (drop place bytes)

-- the length that bytes state
abbrev pub stated_length : List ℕ → ℕ
stated_length bytes = number_at 0 bytes

-- the database that bytes state
abbrev pub stated_db : List ℕ → ℕ
stated_db bytes = number_at 4 bytes

-- the transaction that bytes state, in four bytes or, in format Two, in eight
abbrev pub stated_xid : Format → List ℕ → ℕ
stated_xid One bytes = number_at 8 bytes
stated_xid Two bytes = long_at 8 bytes

-- the process number that bytes state
abbrev pub stated_pid : Format → List ℕ → ℕ
stated_pid One bytes = number_at 12 bytes
stated_pid Two bytes = number_at 16 bytes

-- what stands in the head after its numbers: in format Two four bytes
abbrev pub head_padding : Format → List ℕ → List ℕ
head_padding One bytes = []
head_padding Two bytes = slice_range bytes 20 24

-- what stands after the head, up to the length that is stated
unfoldable pub body : Format → List ℕ → List ℕ
body format bytes = slice_range bytes (header_bytes format) (stated_length bytes)

-- whether a byte is zero
abbrev pub is_zero : ℕ → Bool
is_zero byte = byte == 0

-- no byte is other than zero
abbrev pub IsAllZero : List ℕ → Type 0
IsAllZero bytes = All (λ byte. byte ≡ 0) bytes

-- the note of a body: what stands before its first zero byte, and between that and the second
abbrev pub note_of : List ℕ → Note
note_of bytes = record { channel = before_first is_zero bytes; payload = before_first is_zero (after_first is_zero bytes) }

-- what stands in a body after its second zero byte
abbrev pub padding_of : List ℕ → List ℕ
padding_of bytes = after_first is_zero (after_first is_zero bytes)

-- there are fewer bytes than the shortest entry has, or fewer than are stated
abbrev pub IsShort : Format → List ℕ → Type 0
IsShort format bytes = (length bytes < least_bytes format) ⊎ (length bytes < stated_length bytes)

-- the length that is stated is below the least, above a page's, or no multiple of the alignment
abbrev pub HasBadLength : Format → List ℕ → Type 0
HasBadLength format bytes = (stated_length bytes < least_bytes format) ⊎ ((page_bytes < stated_length bytes) ⊎ (stated_length bytes % alignment format ≢ 0))

-- a byte of the head after its numbers is not zero
abbrev pub HasBadHead : Format → List ℕ → Type 0
HasBadHead format bytes = ¬ (IsAllZero (head_padding format bytes))

-- fewer than two zero bytes stand in a body
abbrev pub LacksZeros : List ℕ → Type 0
LacksZeros bytes = count_by is_zero bytes < 2

-- the channel of a body is no name, or its payload no payload
abbrev pub HasBadTexts : List ℕ → Type 0
HasBadTexts bytes = ¬ (IsName (note_of bytes).channel) ⊎ ¬ (IsPayload (note_of bytes).payload)

-- the length is not that of the texts of a body, or a byte after them is not zero
abbrev pub HasBadPadding : Format → ℕ → List ℕ → Type 0
HasBadPadding format len bytes = (len ≢ entry_length format (note_of bytes)) ⊎ ¬ (IsAllZero (padding_of bytes))

-- there are bytes enough, the length that they state is one of an entry or a filler, and their head ends with zero bytes
pub record HasHead (format : Format) (bytes : List ℕ) : Type 0 where
  pub enough : ¬ (IsShort format bytes)
  pub fits : ¬ (HasBadLength format bytes)
  pub clean : IsAllZero (head_padding format bytes)

-- how bytes are refused, by the first fault that they have; database 0 stands for a filler
abbrev pub IsRefused : Format → EntryFault → List ℕ → Type 0
IsRefused format Short bytes = IsShort format bytes
IsRefused format BadLength bytes = ¬ (IsShort format bytes) × HasBadLength format bytes
IsRefused format NoNul bytes = HasHead format bytes × (stated_db bytes ≢ 0) × LacksZeros (body format bytes)
IsRefused format BadText bytes = HasHead format bytes × (((stated_db bytes ≡ 0) × ¬ (IsAllZero (body format bytes))) ⊎ ((stated_db bytes ≢ 0) × ¬ (LacksZeros (body format bytes)) × HasBadTexts (body format bytes)))
IsRefused format BadPad bytes = (¬ (IsShort format bytes) × ¬ (HasBadLength format bytes) × HasBadHead format bytes)
    ⊎ (HasHead format bytes × (stated_db bytes ≢ 0) × ¬ (LacksZeros (body format bytes)) × ¬ (HasBadTexts (body format bytes)) × HasBadPadding format (stated_length bytes) (body format bytes))

-- bytes begin with the entry of a note
pub record BeginsEntry (format : Format) (note : Note) (db xid pid : ℕ) (bytes : List ℕ) : Type 0 where
  pub valid : IsNote note
  pub numbers : IsHead format db xid pid
  pub of_database : 0 < db
  pub rest : List ℕ
  pub spelling : bytes ≡ spelled format note db xid pid ++ rest

-- bytes begin with a filler of a length
pub record BeginsFiller (format : Format) (len xid pid : ℕ) (bytes : List ℕ) : Type 0 where
  pub valid : IsEntryLength format len
  pub numbers : IsHead format 0 xid pid
  pub rest : List ℕ
  pub spelling : bytes ≡ filler format len xid pid ++ rest

-- what bytes may read as
pub data Reading : Type 0 where
  AnEntry : (len : ℕ) (note : Note) (db xid pid : ℕ) → Reading
  AFiller : (len xid pid : ℕ) → Reading
  AFault : (fault : EntryFault) → Reading

-- what bytes do read as
abbrev pub ReadsAs : Format → List ℕ → Reading → Type 0
ReadsAs format bytes (AnEntry len note db xid pid) = (len ≡ entry_length format note) × BeginsEntry format note db xid pid bytes
ReadsAs format bytes (AFiller len xid pid) = BeginsFiller format len xid pid bytes
ReadsAs format bytes (AFault fault) = IsRefused format fault bytes

-- what an answer of `read_entry` says
abbrev pub told : Result EntryView EntryFault → Reading
told (Ok (Entry len db xid pid channel payload)) = AnEntry len (record { channel = channel.now; payload = payload.now }) db xid pid
told (Ok (Filler len xid pid)) = AFiller len xid pid
told (Err fault) = AFault fault
