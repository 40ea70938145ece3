-- Worked examples of bytes and places.
use Rattle.std.specs.Prelude.{ℕ, List, [], ◌∷◌, ◌++◌, replicate, Option, Some, codes}
use Rattle.std.specs.Str.{byte}
use Rattle.pgn_base.specs.declared.note.Note.{Note}
use Rattle.pgn_journal.specs.declared.tx.Tx.{Tx}
use Rattle.pgn_journal.specs.declared.tx.Fate.{Fate}
use Rattle.pgn_journal.specs.declared.tx.Fate.TheVariants.{Committed, Aborted}

-- a notification on the channel `virtual`
abbrev pub virtual_note : Note
virtual_note = record { channel = codes "virtual"; payload = codes "This is the payload" }

-- its entry in database 1, of the transaction 3 by the process 1001: 44 bytes
abbrev pub virtual_bytes : List ℕ
virtual_bytes = (0x2c ∷ 0 ∷ 0 ∷ 0 ∷ []) ++ (1 ∷ 0 ∷ 0 ∷ 0 ∷ []) ++ (3 ∷ 0 ∷ 0 ∷ 0 ∷ []) ++ (0xe9 ∷ 3 ∷ 0 ∷ 0 ∷ [])
    ++ codes "virtual" ++ 0 ∷ [] ++ codes "This is the payload" ++ 0 ∷ []

-- the numbers of its eleven cells
abbrev pub virtual_cells : List (Option ℕ)
virtual_cells = Some 44 ∷ Some 1 ∷ Some 3 ∷ Some 1001 ∷ Some 0x74726976 ∷ Some 0x006c6175
    ∷ Some 0x73696854 ∷ Some 0x20736920 ∷ Some 0x20656874 ∷ Some 0x6c796170 ∷ Some 0x0064616f ∷ []

-- a notification on the channel `c` without a payload
abbrev pub bare_note : Note
bare_note = record { channel = codes "c"; payload = [] }

-- its entry in database 7, of the transaction 4 by the process 1003: the shortest, 20 bytes
abbrev pub bare_bytes : List ℕ
bare_bytes = (0x14 ∷ 0 ∷ 0 ∷ 0 ∷ []) ++ (7 ∷ 0 ∷ 0 ∷ 0 ∷ []) ++ (4 ∷ 0 ∷ 0 ∷ 0 ∷ []) ++ (0xeb ∷ 3 ∷ 0 ∷ 0 ∷ []) ++ (0x63 ∷ 0 ∷ 0 ∷ 0 ∷ [])

-- the same in format Two: the shortest, 32 bytes
abbrev pub bare_bytes_two : List ℕ
bare_bytes_two = (0x20 ∷ 0 ∷ 0 ∷ 0 ∷ []) ++ (7 ∷ 0 ∷ 0 ∷ 0 ∷ []) ++ (4 ∷ 0 ∷ 0 ∷ 0 ∷ 0 ∷ 0 ∷ 0 ∷ 0 ∷ []) ++ (0xeb ∷ 3 ∷ 0 ∷ 0 ∷ []) ++ (0 ∷ 0 ∷ 0 ∷ 0 ∷ [])
    ++ (0x63 ∷ 0 ∷ 0 ∷ 0 ∷ 0 ∷ 0 ∷ 0 ∷ 0 ∷ [])

-- the same with a number of eight bytes
abbrev pub large_number_bytes : List ℕ
large_number_bytes = (0x20 ∷ 0 ∷ 0 ∷ 0 ∷ []) ++ (7 ∷ 0 ∷ 0 ∷ 0 ∷ []) ++ (8 ∷ 7 ∷ 6 ∷ 5 ∷ 4 ∷ 3 ∷ 2 ∷ 1 ∷ []) ++ (0xeb ∷ 3 ∷ 0 ∷ 0 ∷ []) ++ (0 ∷ 0 ∷ 0 ∷ 0 ∷ [])
    ++ (0x63 ∷ 0 ∷ 0 ∷ 0 ∷ 0 ∷ 0 ∷ 0 ∷ 0 ∷ [])

-- a filler of 32 bytes in format Two, with such a number, by the process 1002
abbrev pub filler_bytes_two : List ℕ
filler_bytes_two = (0x20 ∷ 0 ∷ 0 ∷ 0 ∷ []) ++ (0 ∷ 0 ∷ 0 ∷ 0 ∷ []) ++ (8 ∷ 7 ∷ 6 ∷ 5 ∷ 4 ∷ 3 ∷ 2 ∷ 1 ∷ []) ++ (0xea ∷ 3 ∷ 0 ∷ 0 ∷ []) ++ (0 ∷ 0 ∷ 0 ∷ 0 ∷ [])
    ++ (0 ∷ 0 ∷ 0 ∷ 0 ∷ 0 ∷ 0 ∷ 0 ∷ 0 ∷ [])

-- a filler of 20 bytes, of the transaction 5 by the process 1002
abbrev pub filler_bytes : List ℕ
filler_bytes = (0x14 ∷ 0 ∷ 0 ∷ 0 ∷ []) ++ (0 ∷ 0 ∷ 0 ∷ 0 ∷ []) ++ (5 ∷ 0 ∷ 0 ∷ 0 ∷ []) ++ (0xea ∷ 3 ∷ 0 ∷ 0 ∷ []) ++ (0 ∷ 0 ∷ 0 ∷ 0 ∷ [])

-- a notification on the channel `c` whose payload is this letter so many times
unfoldable pub letters : ℕ → ℕ → Note
letters letter count = record { channel = codes "c"; payload = replicate count letter }

-- a transaction of session 2 in database 1
abbrev pub sent : List Note → ℕ → Fate → Tx
sent notes queued fate = record { session = 2; db = 1; notes = notes; queued = queued; fate = fate }

-- a notification whose channel and payload are as long as they can be
unfoldable pub longest_note : Note
longest_note = record { channel = replicate 63 (byte "c"); payload = replicate 7999 (byte "x") }

-- a transaction of two notifications, after which the rest of the page is shorter than the shortest entry
abbrev pub rest_journal : List Tx
rest_journal = sent (letters (byte "x") 7999 ∷ letters (byte "x") 137 ∷ []) 2 Committed ∷ []

-- a transaction of three notifications, of which the third doesn't fit on the rest of the page
abbrev pub filler_journal : List Tx
filler_journal = sent (letters (byte "x") 7999 ∷ letters (byte "x") 133 ∷ letters (byte "x") 5 ∷ []) 3 Committed ∷ []

-- the cells from the end of the second notification on: a filler, and the third notification on the next page
abbrev pub filler_and_entry : List (Option ℕ)
filler_and_entry = Some 20 ∷ Some 0 ∷ Some 3 ∷ Some 1002 ∷ Some 0
    ∷ Some 24 ∷ Some 1 ∷ Some 3 ∷ Some 1002 ∷ Some 0x78780063 ∷ Some 0x00787878 ∷ []

-- a transaction of three notifications, of which the third doesn't fit on the rest of the page in format Two
abbrev pub filler_journal_two : List Tx
filler_journal_two = sent (longest_note ∷ letters (byte "x") 45 ∷ letters (byte "x") 13 ∷ []) 3 Committed ∷ []

-- the cells in format Two from the end of its second notification on: a filler, and the third notification on the next page
abbrev pub filler_and_entry_two : List (Option ℕ)
filler_and_entry_two = Some 32 ∷ Some 0 ∷ Some 3 ∷ Some 0 ∷ Some 1002 ∷ Some 0 ∷ Some 0 ∷ Some 0
    ∷ Some 40 ∷ Some 1 ∷ Some 3 ∷ Some 0 ∷ Some 1002 ∷ Some 0 ∷ Some 0x78780063 ∷ Some 0x78787878 ∷ Some 0x78787878 ∷ Some 0x00787878 ∷ []

-- four transactions of one long notification, of which the third and the fourth met a full queue, and one of the payload `last`
abbrev pub full_journal : List Tx
full_journal = sent (letters (byte "x") 7999 ∷ []) 1 Committed
    ∷ sent (letters (byte "x") 7999 ∷ []) 1 Committed
    ∷ sent (letters (byte "x") 7999 ∷ []) 0 Aborted
    ∷ sent (letters (byte "x") 7999 ∷ []) 0 Aborted
    ∷ sent (record { channel = codes "c"; payload = codes "last" } ∷ []) 1 Committed
    ∷ []

-- a transaction of three long notifications, of which two were queued, and one of a bare notification
abbrev pub larger_journal : List Tx
larger_journal = sent (letters (byte "x") 7999 ∷ letters (byte "y") 7999 ∷ letters (byte "z") 7999 ∷ []) 2 Aborted ∷ sent (bare_note ∷ []) 1 Committed ∷ []
