-- The bytes of the queue's entries and fillers.
use Rattle.std.specs.Prelude.{ℕ, ◌+◌, ◌-◌, ◌*◌, ◌/◌, ◌<◌, ◌^◌, List, [], ◌∷◌, ◌++◌, length, replicate, ◌%◌, ◌≡◌, ◌≤◌}
use Rattle.std.specs.Int.{w32, w64, to_le_bytes}
use Rattle.pgn_base.specs.declared.limits.TheConstants.{PAGE_BYTES}
use Rattle.pgn_base.specs.declared.format.Format.{Format}
use Rattle.pgn_base.specs.declared.format.Format.TheVariants.{One, Two}
use Rattle.pgn_base.specs.declared.note.Note.{Note}

-- the numbers at the head of an entry take this many bytes
abbrev pub header_bytes : Format → ℕ
header_bytes One = 16
header_bytes Two = 24

-- the length of an entry is a multiple of this many bytes
abbrev pub alignment : Format → ℕ
alignment One = 4
alignment Two = 8

-- the shortest entry has this many bytes
abbrev pub least_bytes : Format → ℕ
least_bytes One = 20
least_bytes Two = 32

-- the number of a transaction has this many bits
abbrev pub xid_bits : Format → ℕ
xid_bits One = 32
xid_bits Two = 64

-- a page has this many bytes
abbrev pub page_bytes : ℕ
page_bytes = PAGE_BYTES

-- a number in four bytes, the lowest first
abbrev pub four_bytes : ℕ → List ℕ
four_bytes n = to_le_bytes w32 n

-- a number in eight bytes, the lowest first
abbrev pub eight_bytes : ℕ → List ℕ
eight_bytes n = to_le_bytes w64 n

-- the numbers at the head of an entry: its length, its database, its transaction and the process number of its sender. In format
-- Two the transaction takes eight bytes, and four zero bytes end the head
unfoldable pub header : Format → ℕ → ℕ → ℕ → ℕ → List ℕ
header One len db xid pid = four_bytes len ++ four_bytes db ++ four_bytes xid ++ four_bytes pid
header Two len db xid pid = four_bytes len ++ four_bytes db ++ eight_bytes xid ++ four_bytes pid ++ replicate 4 0

-- bytes, and then zero bytes up to a length
abbrev pub padded : ℕ → List ℕ → List ℕ
padded len bytes = bytes ++ replicate (len - length bytes) 0

-- a number of bytes, rounded up to a multiple of the alignment
abbrev pub aligned : Format → ℕ → ℕ
aligned format n = (n + (alignment format - 1)) / alignment format * alignment format

-- an entry or a filler may have this length: a multiple of the alignment, from the least one to that of a page
pub record IsEntryLength (format : Format) (len : ℕ) : Type 0 where
  pub whole : len % alignment format ≡ 0
  pub least : least_bytes format ≤ len
  pub fits : len ≤ page_bytes

-- the length of an entry in bytes: that of its head and of its two texts, each with a zero byte, rounded up
unfoldable pub entry_length : Format → Note → ℕ
entry_length format note = aligned format (header_bytes format + (length note.channel + 1) + (length note.payload + 1))

-- the bytes of an entry: its head, the channel and the payload, each with a zero byte after it, and zero bytes up to its length
unfoldable pub spelled : Format → Note → ℕ → ℕ → ℕ → List ℕ
spelled format note db xid pid =
    let len = entry_length format note in
    padded len (header format len db xid pid ++ (note.channel ++ 0 ∷ []) ++ (note.payload ++ 0 ∷ []))

-- the bytes of a filler of this length: a head with database 0, and zero bytes up to the length
unfoldable pub filler : Format → ℕ → ℕ → ℕ → List ℕ
filler format len xid pid = padded len (header format len 0 xid pid)

-- an entry's database and process number each fit in four bytes, and its transaction in the bytes that it has
pub record IsHead (format : Format) (db xid pid : ℕ) : Type 0 where
  pub db_fits : db < 2 ^ 32
  pub xid_fits : xid < 2 ^ xid_bits format
  pub pid_fits : pid < 2 ^ 32
