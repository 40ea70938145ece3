-- Laws of the pieces of a journal, of a transaction that isn't finished, and of a journal that goes on.
use Rattle.std.specs.Prelude.{◌≡◌, ◌≢◌, ℕ, ◌+◌, ◌-◌, ◌*◌, ◌%◌, ◌<◌, ◌≤◌, ◌^◌, Bool, true, cond, ◌==◌, List, [], ◌∷◌, ◌++◌, length, take, drop, fold, Some, slice_get, slice_index, All, AllPairs}
use Rattle.std.specs.List.{flat_map}
use Rattle.std.specs.List.Sorted.{IsNonDecreasingBy}
use Rattle.std.specs.Int.{w32, from_le_bytes}
use Rattle.pgn_base.specs.declared.limits.TheConstants.{FIRST_XID, SECTIONS_MAX}
use Rattle.pgn_base.specs.declared.format.Format.{Format}
use Rattle.pgn_base.specs.declared.note.Note.{Note}
use Rattle.pgn_journal.specs.declared.tx.Tx.{Tx}
use Rattle.pgn_journal.specs.declared.tx.Fate.{Fate}
use Rattle.pgn_journal.specs.declared.tx.Fate.TheVariants.{Committed, Aborted}
use Rattle.pgn_journal.specs.Begins.{Begins}
use Rattle.pgn_journal.specs.Journal.{next_xid, entries_between, IsFinished, IsQueued, xids_from, xids_of}
use Rattle.pgn_journal.specs.Due.{due, due_from}
use Rattle.pgn_base.specs.Notes.{IsNote}
use Rattle.pgn_journal.specs.Bytes.{xid_bits, four_bytes}
use Rattle.pgn_journal.specs.Packing.{cell_bytes, cells_in, sender_of, is_page_start, filled_cells, entry_cells, filler_cells, notes_cells, image_from, image, place, after_bytes, put_all, after, HasRoom}
use Rattle.pgn_journal.specs.Pieces.{Piece, piece_bytes, piece_length, db_of, number_of, lay, pieces_from, give_all, committed_by, TellsFates, QueuesAll, IsNumbered, IsReadable, IsSamePiece, IsWritten, draft}

-- pieces lie one after another
abbrev pub PiecesInTurn : Type 0
PiecesInTurn = (format : Format) (at : ℕ) (pieces more : List Piece)
    → lay format at (pieces ++ more) ≡ lay format at pieces ++ lay format (at + length (lay format at pieces)) more

-- the cells of transactions are their pieces, laid one after another
abbrev pub ImageIsLaid : Type 0
ImageIsLaid = (format : Format) (x at : ℕ) (txs : List Tx) → HasRoom format at
    → image_from format x at txs ≡ lay format at (pieces_from format x at txs)

-- the place after the cells of transactions, by arithmetic alone
abbrev pub TransactionsArePacked : Type 0
TransactionsArePacked = (format : Format) (x at : ℕ) (txs : List Tx) → HasRoom format at
    → at + length (image_from format x at txs) ≡ fold (after format) at txs

-- the pieces of two lists of transactions are those of the one and then those of the other
abbrev pub PiecesSplit : Type 0
PiecesSplit = (format : Format) (x at : ℕ) (txs more : List Tx)
    → pieces_from format x at (txs ++ more) ≡ pieces_from format x at txs ++ pieces_from format (x + length txs) (fold (after format) at txs) more

-- the cells from the place of a transaction on are those of the rest of the journal
abbrev pub ImageDrops : Type 0
ImageDrops = (format : Format) (journal : List Tx) (m : ℕ) → FIRST_XID ≤ m
    → drop (place format journal m) (image format journal) ≡ image_from format m (place format journal m) (drop (m - FIRST_XID) journal)

-- from the place of a transaction on lie the pieces of those up to another, with their numbers, and then those of the rest
pub record JournalIsCut : Type 0 where
  pub cells : (format : Format) (journal : List Tx) (m n : ℕ) → FIRST_XID ≤ m → m ≤ n → n ≤ next_xid journal
      → let here = place format journal m in
      let there = place format journal n in
      drop here (image format journal)
      ≡ lay format here (pieces_from format m here (entries_between journal m n) ++ pieces_from format n there (drop (n - FIRST_XID) journal))
  pub ends : (format : Format) (journal : List Tx) (m n : ℕ) → FIRST_XID ≤ m → m ≤ n → n ≤ next_xid journal
      → let here = place format journal m in
      here + length (lay format here (pieces_from format m here (entries_between journal m n))) ≡ place format journal n
  pub numbers : (format : Format) (journal : List Tx) (m n at : ℕ) → FIRST_XID ≤ m → m ≤ n → n ≤ next_xid journal
      → All (IsNumbered m n) (pieces_from format m at (entries_between journal m n))

-- what the pieces of transactions give is what the transactions give
abbrev pub PiecesGiveDue : Type 0
PiecesGiveDue = (format : Format) (x at : ℕ) (txs : List Tx) (db : ℕ) (channels : List (List ℕ)) (committed : ℕ → Bool) → All QueuesAll txs
    → TellsFates committed x txs
    → give_all db channels committed (pieces_from format x at txs) ≡ due_from db channels x txs

-- what the pieces of a journal's transactions from the mark m up to n give is what is due from m up to n
abbrev pub PiecesGiveAllDue : Type 0
PiecesGiveAllDue = (format : Format) (journal : List Tx) (m n at db : ℕ) (channels : List (List ℕ)) → All QueuesAll journal → FIRST_XID ≤ m
    → give_all db channels (committed_by journal) (pieces_from format m at (entries_between journal m n)) ≡ due journal m n db channels

-- finished transactions have queued all, where they committed
abbrev pub FinishedQueueAll : Type 0
FinishedQueueAll = (tx : Tx) → IsFinished tx → QueuesAll tx

-- a journal tells the fates of its own transactions from a number on
abbrev pub JournalTellsFates : Type 0
JournalTellsFates = (journal : List Tx) (m : ℕ) → FIRST_XID ≤ m → TellsFates (committed_by journal) m (drop (m - FIRST_XID) journal)

-- the pieces of transactions have the transactions' numbers
abbrev pub PiecesAreNumbered : Type 0
PiecesAreNumbered = (format : Format) (x at : ℕ) (txs : List Tx) → All (IsNumbered x (x + length txs)) (pieces_from format x at txs)

-- a later piece's number is no smaller
abbrev pub NumbersRise : Type 0
NumbersRise = (format : Format) (x at : ℕ) (txs : List Tx) → IsNonDecreasingBy number_of (pieces_from format x at txs)

-- the pieces of written transactions are read back
abbrev pub PiecesAreReadable : Type 0
PiecesAreReadable = (format : Format) (x at : ℕ) (txs : List Tx) → HasRoom format at → All IsWritten txs → x + length txs ≤ 2 ^ xid_bits format
    → All (IsReadable format) (pieces_from format x at txs)

-- the arithmetic gives the place after a piece; after one that is read back it is a later one, where the next can begin
pub record PieceAdvances : Type 0 where
  pub place : (format : Format) (at : ℕ) (piece : Piece)
      → at + length (entry_cells format at (piece_bytes format piece)) ≡ after_bytes format at (length (piece_bytes format piece))
  pub further : (format : Format) (at : ℕ) (piece : Piece) → IsReadable format piece → at < after_bytes format at (length (piece_bytes format piece))
  pub room : (format : Format) (at : ℕ) (piece : Piece) → HasRoom format at → IsReadable format piece
      → HasRoom format (after_bytes format at (length (piece_bytes format piece)))

-- a piece that is read back has as many bytes as it states, and all of them are bytes
pub record PieceHasBytes : Type 0 where
  pub stated : (format : Format) (piece : Piece) → IsReadable format piece → length (piece_bytes format piece) ≡ piece_length format piece
  pub whole : (format : Format) (piece : Piece) → IsReadable format piece → length (piece_bytes format piece) % cell_bytes ≡ 0
  pub below : (format : Format) (piece : Piece) → IsReadable format piece → All (λ byte. byte < 256) (piece_bytes format piece)

-- bytes that begin with a piece begin with no other one
abbrev pub PieceReadsBack : Type 0
PieceReadsBack = (format : Format) (piece other : Piece) (rest rest' : List ℕ) → IsReadable format piece → IsReadable format other
    → piece_bytes format piece ++ rest ≡ piece_bytes format other ++ rest'
    → IsSamePiece piece other × (rest ≡ rest')

-- the first two cells of a piece hold its length and its database
pub record FirstCells : Type 0 where
  pub first : (format : Format) (piece : Piece) → IsReadable format piece
      → slice_get (filled_cells (piece_bytes format piece)) 0 ≡ Some (Some (length (piece_bytes format piece)))
  pub second : (format : Format) (piece : Piece) → IsReadable format piece
      → slice_get (filled_cells (piece_bytes format piece)) 1 ≡ Some (Some (db_of piece))

-- the next one holds its transaction's number, where that fits in a cell. In format Two a further one follows for larger numbers
abbrev pub ThirdCell : Type 0
ThirdCell = (format : Format) (piece : Piece) → IsReadable format piece → number_of piece < 2 ^ 32
    → slice_get (filled_cells (piece_bytes format piece)) 2 ≡ Some (Some (number_of piece))

-- numbers that stand in the cells of bytes give the bytes back
abbrev pub NumbersGiveBytes : Type 0
NumbersGiveBytes = (bytes numbers : List ℕ) → length bytes % cell_bytes ≡ 0 → All (λ byte. byte < 256) bytes
    → length numbers ≡ cells_in (length bytes)
    → ((k n : ℕ) → slice_get (filled_cells bytes) k ≡ Some (Some n) → slice_index numbers k ≡ n) → flat_map four_bytes numbers ≡ bytes

-- a cell of bytes holds the number that its four bytes spell
abbrev pub CellsHoldNumbers : Type 0
CellsHoldNumbers = (bytes : List ℕ) (k : ℕ) → k < cells_in (length bytes)
    → slice_get (filled_cells bytes) k ≡ Some (Some (from_le_bytes w32 (drop (cell_bytes * k) bytes)))

-- a finished transaction of a session and a database in range is written
abbrev pub FinishedAreWritten : Type 0
FinishedAreWritten = (tx : Tx) → IsFinished tx → 0 < tx.db → tx.db < 2 ^ 32 → tx.session ≤ SECTIONS_MAX → IsWritten tx

-- the cells of one transaction more: those of its queued notifications, and a filler where it was aborted in the middle of a page
pub record OneMoreImage : Type 0 where
  pub committed : (format : Format) (seen : List Tx) (tx : Tx) → tx.fate ≡ Committed
      → image format (seen ++ tx ∷ []) ≡ image format seen ++ notes_cells format (sender_of (next_xid seen) tx) (length (image format seen)) (take tx.queued tx.notes)
  pub aborted : (format : Format) (seen : List Tx) (tx : Tx) → tx.fate ≡ Aborted
      → let sender = sender_of (next_xid seen) tx in
      let at = length (image format seen) in
      let end = put_all format at (take tx.queued tx.notes) in
      image format (seen ++ tx ∷ []) ≡ image format seen ++ notes_cells format sender at (take tx.queued tx.notes) ++ cond (is_page_start end) [] (filler_cells format sender end)
  pub ends : (format : Format) (seen : List Tx) (tx : Tx) → length (image format (seen ++ tx ∷ [])) ≡ after format (length (image format seen)) tx

-- a draft that stops where a page begins has the same cells with either fate
abbrev pub DraftAtPageStart : Type 0
DraftAtPageStart = (format : Format) (seen : List Tx) (session db : ℕ) (notes : List Note) (queued : ℕ)
    → is_page_start (put_all format (length (image format seen)) (take queued notes)) ≡ true
    → image format (seen ++ draft session db notes queued Aborted ∷ []) ≡ image format (seen ++ draft session db notes queued Committed ∷ [])

-- a finished transaction is a draft with its end: all notifications and Committed, or fewer and Aborted
pub record FinishedAreDrafts : Type 0 where
  pub committed : (tx : Tx) → IsFinished tx → tx.fate ≡ Committed → tx ≡ draft tx.session tx.db tx.notes (length tx.notes) Committed
  pub aborted : (tx : Tx) → tx.fate ≡ Aborted → tx ≡ draft tx.session tx.db tx.notes tx.queued Aborted

-- and a draft that has queued as many notifications as its end says is a finished transaction
abbrev pub DraftsFinish : Type 0
DraftsFinish = (session db : ℕ) (notes : List Note) (queued : ℕ) (fate : Fate) → notes ≢ [] → AllPairs (λ a b. a ≢ b) notes
    → All IsNote notes → IsQueued fate queued (length notes)
    → IsFinished (draft session db notes queued fate)

-- a draft of notifications that can be sent is written
abbrev pub DraftsAreWritten : Type 0
DraftsAreWritten = (session db : ℕ) (notes : List Note) (queued : ℕ) (fate : Fate) → All IsNote notes → 0 < db → db < 2 ^ 32
    → session ≤ SECTIONS_MAX → IsWritten (draft session db notes queued fate)

-- a longer journal changes no place, no cell, no transaction and nothing of what is due before its new part
pub record LongerAgrees : Type 0 where
  pub places : (format : Format) (xs ys : List Tx) (x : ℕ) → Begins xs ys → x ≤ next_xid xs → place format ys x ≡ place format xs x
  pub images : (format : Format) (xs ys : List Tx) → Begins xs ys → Begins (image format xs) (image format ys)
  pub entries : (xs ys : List Tx) (m n : ℕ) → Begins xs ys → n ≤ next_xid xs → entries_between ys m n ≡ entries_between xs m n
  pub dues : (xs ys : List Tx) (m n db : ℕ) (channels : List (List ℕ)) → Begins xs ys → n ≤ next_xid xs
      → due ys m n db channels ≡ due xs m n db channels

-- the numbers of a session in a journal that goes on: those that it had, and then those of the new part
pub record XidsGoOn : Type 0 where
  pub more : (session : ℕ) (xs ys : List Tx) → xids_of session (xs ++ ys) ≡ xids_of session xs ++ xids_from session (next_xid xs) ys
  pub one : (session : ℕ) (journal : List Tx) (tx : Tx)
      → xids_of session (journal ++ tx ∷ []) ≡ xids_of session journal ++ cond (tx.session == session) (next_xid journal ∷ []) []
