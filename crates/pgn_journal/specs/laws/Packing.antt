-- Laws of where the entries of a journal lie.
use Rattle.std.specs.Prelude.{◌≡◌, ℕ, ◌+◌, ◌-◌, ◌*◌, ◌%◌, ◌≤◌, ◌<◌, ◌≢◌, true, false, List, [], ◌++◌, length, take, drop, fold, sum_by, Some, All}
use Rattle.pgn_base.specs.declared.limits.TheConstants.{FIRST_XID}
use Rattle.pgn_base.specs.declared.format.Format.{Format}
use Rattle.pgn_base.specs.declared.note.Note.{Note}
use Rattle.pgn_journal.specs.declared.tx.Tx.{Tx}
use Rattle.pgn_journal.specs.declared.tx.Fate.{Fate}
use Rattle.pgn_journal.specs.declared.tx.Fate.TheVariants.{Aborted}
use Rattle.pgn_journal.specs.Journal.{entry, next_xid, IsFinished}
use Rattle.pgn_base.specs.Notes.{IsNote}
use Rattle.pgn_journal.specs.Bytes.{entry_length, spelled, filler, IsEntryLength}
use Rattle.pgn_journal.specs.Packing.{Sender, cell_bytes, page_cells, is_page_start, next_page, bytes_left, fits, filled_cells, entry_cells, filler_cells, note_cells, notes_cells, end_cells, tx_cells, image_from, image, place, IsCellOf, after_bytes, put, put_all, ended, after, bytes_of, HasRoom}

-- cells give back the bytes that fill them
pub record CellsGiveBytes : Type 0 where
  pub of_bytes : (bytes : List ℕ) → length bytes % cell_bytes ≡ 0 → All (λ byte. byte < 256) bytes → bytes_of (filled_cells bytes) ≡ bytes
  pub of_entry : (format : Format) (note : Note) (db xid pid : ℕ) → IsNote note → bytes_of (filled_cells (spelled format note db xid pid)) ≡ spelled format note db xid pid
  pub of_filler : (format : Format) (len xid pid : ℕ) → IsEntryLength format len → bytes_of (filled_cells (filler format len xid pid)) ≡ filler format len xid pid

-- the arithmetic gives the place after the cells of an entry, a filler, a notification, several of them, an end, a transaction
pub record IsPacked : Type 0 where
  pub of_bytes : (format : Format) (note : Note) (db xid pid at : ℕ) → at + length (entry_cells format at (spelled format note db xid pid)) ≡ after_bytes format at (entry_length format note)
  pub of_filler : (format : Format) (sender : Sender) (at : ℕ) → HasRoom format at → at + length (filler_cells format sender at) ≡ next_page at
  pub of_note : (format : Format) (sender : Sender) (at : ℕ) (note : Note) → HasRoom format at → at + length (note_cells format sender at note) ≡ put format at note
  pub of_notes : (format : Format) (sender : Sender) (at : ℕ) (notes : List Note) → HasRoom format at → at + length (notes_cells format sender at notes) ≡ put_all format at notes
  pub of_end : (format : Format) (sender : Sender) (fate : Fate) (at : ℕ) → HasRoom format at → at + length (end_cells format sender fate at) ≡ ended fate at
  pub of_tx : (format : Format) (x : ℕ) (at : ℕ) (tx : Tx) → HasRoom format at → at + length (tx_cells format x at tx) ≡ after format at tx

-- an entry may begin after each transaction, and after each notification that is put
pub record LeavesRoom : Type 0 where
  pub at_start : (format : Format) (journal : List Tx) (x : ℕ) → HasRoom format (place format journal x)
  pub after_notes : (format : Format) (at : ℕ) (notes : List Note) → HasRoom format at → HasRoom format (put_all format at notes)

-- a notification takes some cells, and at most those of two pages
abbrev pub PutTakes : Type 0
PutTakes = (format : Format) (at : ℕ) (note : Note) → IsNote note → (at < put format at note) × (put format at note ≤ at + 2 * page_cells)

-- what is left of a page where an entry may begin is the length of a filler, and a page's whole length holds each entry
pub record PagesHold : Type 0 where
  pub rest : (format : Format) (at : ℕ) → HasRoom format at → IsEntryLength format (bytes_left at)
  pub next : (format : Format) (at : ℕ) (note : Note) → IsNote note → entry_length format note ≤ bytes_left (next_page at)

-- a notification lies as a filler and then the same notification on the next page, and ends where that ends
pub record FillsAndMoves (format : Format) (sender : Sender) (at : ℕ) (note : Note) : Type 0 where
  pub cells : note_cells format sender at note ≡ filler_cells format sender at ++ note_cells format sender (next_page at) note
  pub ends : put format at note ≡ put format (next_page at) note

-- a notification that doesn't fit on the rest of the page moves to the next one behind a filler
abbrev pub NoteMoves : Type 0
NoteMoves = (format : Format) (sender : Sender) (at : ℕ) (note : Note) → IsNote note → fits at (entry_length format note) ≡ false → FillsAndMoves format sender at note

-- notifications lie one after another
abbrev pub NotesInTurn : Type 0
NotesInTurn = (format : Format) (sender : Sender) (at : ℕ) (notes more : List Note)
    → notes_cells format sender at (notes ++ more) ≡ notes_cells format sender at notes ++ notes_cells format sender (at + length (notes_cells format sender at notes)) more

-- the first transaction begins at cell 0
abbrev pub FirstPlace : Type 0
FirstPlace = (format : Format) (journal : List Tx) → place format journal FIRST_XID ≡ 0

-- the next transaction begins where the arithmetic says that one ends
abbrev pub NextPlace : Type 0
NextPlace = (format : Format) (journal : List Tx) (x : ℕ) (tx : Tx) → FIRST_XID ≤ x → entry journal x ≡ Some tx
    → place format journal (x + 1) ≡ after format (place format journal x) tx

-- past the journal's end it stays the end
abbrev pub LastPlace : Type 0
LastPlace = (format : Format) (journal : List Tx) (x : ℕ) → next_xid journal ≤ x → place format journal x ≡ length (image format journal)

-- the place of a transaction is what the arithmetic gives from cell 0 on after all before it
abbrev pub PlaceFolds : Type 0
PlaceFolds = (format : Format) (journal : List Tx) (x : ℕ) → place format journal x ≡ fold (after format) 0 (take (x - FIRST_XID) journal)

-- later transactions begin no earlier
abbrev pub PlaceGrows : Type 0
PlaceGrows = (format : Format) (journal : List Tx) (x y : ℕ) → x ≤ y → place format journal x ≤ place format journal y

-- a transaction with a queued notification takes some cells
abbrev pub PlaceRises : Type 0
PlaceRises = (format : Format) (journal : List Tx) (x : ℕ) (tx : Tx) → FIRST_XID ≤ x → entry journal x ≡ Some tx → 0 < tx.queued → tx.notes ≢ []
    → place format journal x < place format journal (x + 1)

-- the queue has at most two pages for each notification
abbrev pub PlaceBound : Type 0
PlaceBound = (format : Format) (journal : List Tx) (x : ℕ) → All IsFinished journal → place format journal x ≤ 2 * page_cells * sum_by (λ tx. length tx.notes) journal

-- an aborted transaction ends where a page begins
abbrev pub AbortedEnds : Type 0
AbortedEnds = (format : Format) (journal : List Tx) (x : ℕ) (tx : Tx) → FIRST_XID ≤ x → entry journal x ≡ Some tx → tx.fate ≡ Aborted
    → is_page_start (place format journal (x + 1)) ≡ true

-- a longer journal changes no place of its front
abbrev pub PlacesAgree : Type 0
PlacesAgree = (format : Format) (journal more : List Tx) (x : ℕ) → x ≤ next_xid journal → place format (journal ++ more) x ≡ place format journal x

-- a longer journal changes no cell of its front
abbrev pub ImagesAgree : Type 0
ImagesAgree = (format : Format) (journal more : List Tx)
    → image format (journal ++ more) ≡ image format journal ++ image_from format (next_xid journal) (length (image format journal)) more

-- the cells from the place of a transaction up to the next one's are those of that transaction
abbrev pub CellsOfEach : Type 0
CellsOfEach = (format : Format) (journal : List Tx) (x : ℕ) (tx : Tx) → FIRST_XID ≤ x → entry journal x ≡ Some tx
    → drop (place format journal x) (take (place format journal (x + 1)) (image format journal)) ≡ tx_cells format x (place format journal x) tx

-- no two transactions share a cell
abbrev pub CellsApart : Type 0
CellsApart = (format : Format) (journal : List Tx) (x y cell : ℕ) → IsCellOf format journal x cell → IsCellOf format journal y cell → x ≡ y
