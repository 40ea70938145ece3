-- Where the entries of a journal lie in the queue. A place is the number of a cell, counted from the first of page 0. Places
-- are added to numbers of cells; a number of bytes becomes one of cells by `cells_in`, and back by `bytes_in`.
use Rattle.std.specs.Prelude.{ℕ, ◌+◌, ◌-◌, ◌*◌, ◌/◌, ◌<◌, ◌≤◌, ◌%◌, ◌≡◌, Bool, cond, nat_le, ◌==◌, List, [], ◌∷◌, ◌++◌, length, take, replicate, fold, Option, Some, None}
use Rattle.std.specs.Int.{w32, from_le_bytes}
use Rattle.pgn_base.specs.declared.limits.TheConstants.{PID_BASE, FIRST_XID, CELL_BYTES}
use Rattle.pgn_base.specs.declared.format.Format.{Format}
use Rattle.pgn_base.specs.declared.note.Note.{Note}
use Rattle.pgn_journal.specs.declared.tx.Tx.{Tx}
use Rattle.pgn_journal.specs.declared.tx.Fate.{Fate}
use Rattle.pgn_journal.specs.declared.tx.Fate.TheVariants.{Committed, Aborted}
use Rattle.pgn_journal.specs.Bytes.{alignment, least_bytes, page_bytes, entry_length, spelled, filler, four_bytes}

-- a cell has this many bytes
abbrev pub cell_bytes : ℕ
cell_bytes = CELL_BYTES

-- the cells of this many bytes
abbrev pub cells_in : ℕ → ℕ
cells_in bytes = bytes / cell_bytes

-- the bytes of this many cells
abbrev pub bytes_in : ℕ → ℕ
bytes_in cells = cells * cell_bytes

-- a page has this many cells
abbrev pub page_cells : ℕ
page_cells = cells_in page_bytes

-- the page of a place
abbrev pub page_of : ℕ → ℕ
page_of at = at / page_cells

-- the place where a page begins
abbrev pub page_start : ℕ → ℕ
page_start page = page * page_cells

-- the place on this page at this offset in bytes
abbrev pub place_at : ℕ → ℕ → ℕ
place_at page offset = page_start page + cells_in offset

-- the place where the page after that of a place begins
abbrev pub next_page : ℕ → ℕ
next_page at = page_start (page_of at + 1)

-- a page begins at the place
abbrev pub is_page_start : ℕ → Bool
is_page_start at = page_start (page_of at) == at

-- the cells from a place to the end of its page
abbrev pub cells_left : ℕ → ℕ
cells_left at = next_page at - at

-- the bytes from a place to the end of its page
abbrev pub bytes_left : ℕ → ℕ
bytes_left at = bytes_in (cells_left at)

-- an entry of this many bytes fits on the page of a place, from the place on
abbrev pub fits : ℕ → ℕ → Bool
fits at bytes = nat_le bytes (bytes_left at)

-- the shortest entry fits on the page of a place, from the place on
abbrev pub has_room : Format → ℕ → Bool
has_room format at = fits at (least_bytes format)

-- an entry may begin at the place: its offset is a multiple of the alignment, and the shortest entry fits from there on the page
pub record HasRoom (format : Format) (at : ℕ) : Type 0 where
  pub whole : bytes_in at % alignment format ≡ 0
  pub least : least_bytes format ≤ bytes_left at

-- The image: what the cells hold, one item for each cell from the first of page 0.

-- the cells that bytes fill: each holds the number that its four bytes spell, the lowest first
unfoldable pub filled_cells : List ℕ → List (Option ℕ)
filled_cells (a ∷ b ∷ c ∷ d ∷ bytes) = Some (from_le_bytes w32 (a ∷ b ∷ c ∷ d ∷ [])) ∷ filled_cells bytes
filled_cells bytes = []

-- the bytes whose numbers stand in cells
abbrev pub bytes_of : List (Option ℕ) → List ℕ
bytes_of [] = []
bytes_of (None ∷ cells) = bytes_of cells
bytes_of (Some n ∷ cells) = four_bytes n ++ bytes_of cells

-- the page rest at a place: nothing where the shortest entry fits there, and otherwise the cells to the end of the page, empty
unfoldable pub page_rest : Format → ℕ → List (Option ℕ)
page_rest format at = cond (has_room format at) [] (replicate (cells_left at) None)

-- the cells from a place on of an entry's bytes, and the page rest after them
unfoldable pub entry_cells : Format → ℕ → List ℕ → List (Option ℕ)
entry_cells format at bytes = filled_cells bytes ++ page_rest format (at + length (filled_cells bytes))

-- what each entry of a transaction says of it: its database, its number and the process number of its session
pub record Sender : Type 0 where
  pub db : ℕ
  pub xid : ℕ
  pub pid : ℕ

-- the sender of the transaction numbered x
abbrev pub sender_of : ℕ → Tx → Sender
sender_of x tx = record { db = tx.db; xid = x; pid = PID_BASE + tx.session }

-- the cells of a filler that takes the rest of the page
unfoldable pub filler_cells : Format → Sender → ℕ → List (Option ℕ)
filler_cells format sender at = filled_cells (filler format (bytes_left at) sender.xid sender.pid)

-- the cells from a place on of a notification: its entry, where that fits on the rest of the page; otherwise a filler, and then
-- its entry on the next page
unfoldable pub note_cells : Format → Sender → ℕ → Note → List (Option ℕ)
note_cells format sender at note =
    let entry = spelled format note sender.db sender.xid sender.pid in
    cond (fits at (entry_length format note)) (entry_cells format at entry) (filler_cells format sender at ++ entry_cells format (next_page at) entry)

-- the cells from a place on of notifications, one after another
unfoldable pub notes_cells : Format → Sender → ℕ → List Note → List (Option ℕ)
notes_cells format sender at [] = []
notes_cells format sender at (note ∷ notes) = note_cells format sender at note ++ notes_cells format sender (at + length (note_cells format sender at note)) notes

-- the cells from a place on that end a transaction: none where it committed; where it was aborted a filler, unless a page begins
-- at the place
unfoldable pub end_cells : Format → Sender → Fate → ℕ → List (Option ℕ)
end_cells format sender Committed at = []
end_cells format sender Aborted at = cond (is_page_start at) [] (filler_cells format sender at)

-- the cells from a place on of the transaction numbered x: those of its queued notifications, and those that end it
unfoldable pub tx_cells : Format → ℕ → ℕ → Tx → List (Option ℕ)
tx_cells format x at tx =
    let queued = notes_cells format (sender_of x tx) at (take tx.queued tx.notes) in
    queued ++ end_cells format (sender_of x tx) tx.fate (at + length queued)

-- the cells from a place on of transactions, of which the first is numbered x
unfoldable pub image_from : Format → ℕ → ℕ → List Tx → List (Option ℕ)
image_from format x at [] = []
image_from format x at (tx ∷ txs) = tx_cells format x at tx ++ image_from format (x + 1) (at + length (tx_cells format x at tx)) txs

-- the cells of a whole journal
unfoldable pub image : Format → List Tx → List (Option ℕ)
image format journal = image_from format FIRST_XID 0 journal

-- the place where the transaction numbered x begins: after the cells of those before it. Past the journal's end it is the end
unfoldable pub place : Format → List Tx → ℕ → ℕ
place format journal x = length (image format (take (x - FIRST_XID) journal))

-- a cell of the transaction numbered x, among whose cells the page rests after its entries count
pub record IsCellOf (format : Format) (journal : List Tx) (x cell : ℕ) : Type 0 where
  pub from : place format journal x ≤ cell
  pub before : cell < place format journal (x + 1)

-- The same places, by arithmetic alone.

-- the place after the page rest at a place: itself where the shortest entry fits there, and otherwise the next page's beginning
unfoldable pub after_rest : Format → ℕ → ℕ
after_rest format at = cond (has_room format at) at (next_page at)

-- the place after this many bytes, and after the page rest that follows
unfoldable pub after_bytes : Format → ℕ → ℕ → ℕ
after_bytes format at bytes = after_rest format (at + cells_in bytes)

-- the place after an entry of this many bytes, which begins on the next page where it doesn't fit on the rest of this one
unfoldable pub put_bytes : Format → ℕ → ℕ → ℕ
put_bytes format at bytes = cond (fits at bytes) (after_bytes format at bytes) (after_bytes format (next_page at) bytes)

-- the place after a notification
unfoldable pub put : Format → ℕ → Note → ℕ
put format at note = put_bytes format at (entry_length format note)

-- the place after notifications, one after another
abbrev pub put_all : Format → ℕ → List Note → ℕ
put_all format at notes = fold (put format) at notes

-- the place where a transaction ends whose notifications end at a place: an aborted one ends where a page begins
unfoldable pub ended : Fate → ℕ → ℕ
ended Committed at = at
ended Aborted at = cond (is_page_start at) at (next_page at)

-- the place after a transaction
unfoldable pub after : Format → ℕ → Tx → ℕ
after format at tx = ended tx.fate (put_all format at (take tx.queued tx.notes))
