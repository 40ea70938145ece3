-- The pieces of a journal: its entries and fillers, in the order in which they lie. A journal's cells are its pieces laid one
-- after another, and what is due from it is what its pieces give.
use Rattle.std.specs.Prelude.{◌≡◌, ℕ, ◌+◌, ◌<◌, ◌≤◌, ◌^◌, Bool, false, cond, ◌==◌, ◌&&◌, List, [], ◌∷◌, ◌++◌, length, take, Option, Some, None, slice_get, All}
use Rattle.std.specs.List.{flat_map}
use Rattle.pgn_base.specs.declared.limits.TheConstants.{SECTIONS_MAX}
use Rattle.pgn_base.specs.declared.format.Format.{Format}
use Rattle.pgn_base.specs.declared.note.Note.{Note}
use Rattle.pgn_base.specs.declared.note.Delivery.{Delivery}
use Rattle.pgn_journal.specs.declared.tx.Tx.{Tx}
use Rattle.pgn_journal.specs.declared.tx.Fate.{Fate}
use Rattle.pgn_journal.specs.declared.tx.Fate.TheVariants.{Committed, Aborted}
use Rattle.pgn_journal.specs.Journal.{entry, is_committed}
use Rattle.pgn_journal.specs.Due.{listens}
use Rattle.pgn_base.specs.Notes.{IsNote}
use Rattle.pgn_journal.specs.Bytes.{entry_length, spelled, filler, IsHead, IsEntryLength}
use Rattle.pgn_journal.specs.Packing.{Sender, sender_of, is_page_start, bytes_left, fits, entry_cells, put, put_all, after}

-- what lies in the queue: an entry or a filler, with its sender
pub data Piece : Type 0 where
  -- the entry of a notification
  AnEntry : (note : Note) (sender : Sender) → Piece
  -- a filler of this many bytes
  AFiller : (len : ℕ) (sender : Sender) → Piece

-- the bytes of a piece
abbrev pub piece_bytes : Format → Piece → List ℕ
piece_bytes format (AnEntry note sender) = spelled format note sender.db sender.xid sender.pid
piece_bytes format (AFiller len sender) = filler format len sender.xid sender.pid

-- the length that a piece states: how many bytes it has
abbrev pub piece_length : Format → Piece → ℕ
piece_length format (AnEntry note sender) = entry_length format note
piece_length format (AFiller len sender) = len

-- the database that a piece states: that of its sender, and 0 in a filler
abbrev pub db_of : Piece → ℕ
db_of (AnEntry note sender) = sender.db
db_of (AFiller len sender) = 0

-- the number of the transaction of a piece
abbrev pub number_of : Piece → ℕ
number_of (AnEntry note sender) = sender.xid
number_of (AFiller len sender) = sender.xid

-- the process number of a piece's sender
abbrev pub pid_of : Piece → ℕ
pid_of (AnEntry note sender) = sender.pid
pid_of (AFiller len sender) = sender.pid

-- the cells from a place on of pieces, one after another. A filler is laid as an entry is
unfoldable pub lay : Format → ℕ → List Piece → List (Option ℕ)
lay format at [] = []
lay format at (piece ∷ pieces) =
    let cells = entry_cells format at (piece_bytes format piece) in
    cells ++ lay format (at + length cells) pieces

-- the pieces from a place on of a notification: its entry, where that fits on the rest of the page; otherwise a filler, and then
-- its entry
unfoldable pub note_pieces : Format → Sender → ℕ → Note → List Piece
note_pieces format sender at note =
    let entry = AnEntry note sender in
    cond (fits at (entry_length format note)) (entry ∷ []) (AFiller (bytes_left at) sender ∷ entry ∷ [])

-- the pieces from a place on of notifications, one after another
unfoldable pub notes_pieces : Format → Sender → ℕ → List Note → List Piece
notes_pieces format sender at [] = []
notes_pieces format sender at (note ∷ notes) = note_pieces format sender at note ++ notes_pieces format sender (put format at note) notes

-- the pieces from a place on that end a transaction: none where it committed; where it was aborted a filler, unless a page begins
-- at the place
unfoldable pub end_pieces : Sender → Fate → ℕ → List Piece
end_pieces sender Committed at = []
end_pieces sender Aborted at = cond (is_page_start at) [] (AFiller (bytes_left at) sender ∷ [])

-- the pieces from a place on of the transaction numbered x: those of its queued notifications, and those that end it
unfoldable pub tx_pieces : Format → ℕ → ℕ → Tx → List Piece
tx_pieces format x at tx =
    let queued = take tx.queued tx.notes in
    notes_pieces format (sender_of x tx) at queued ++ end_pieces (sender_of x tx) tx.fate (put_all format at queued)

-- the pieces from a place on of transactions, of which the first is numbered x
unfoldable pub pieces_from : Format → ℕ → ℕ → List Tx → List Piece
pieces_from format x at [] = []
pieces_from format x at (tx ∷ txs) = tx_pieces format x at tx ++ pieces_from format (x + 1) (after format at tx) txs

-- a notification of a sender as it is received
abbrev pub delivery_of : Sender → Note → Delivery
delivery_of sender note = record { xid = sender.xid; pid = sender.pid; note = note }

-- what a piece gives to a reader in this database that listens on these channels, where it is told which numbers committed: its
-- notification, if it is an entry of a committed transaction of that database on one of those channels
abbrev pub gives : ℕ → List (List ℕ) → (ℕ → Bool) → Piece → List Delivery
gives db channels committed (AFiller len sender) = []
gives db channels committed (AnEntry note sender) = cond (committed sender.xid && sender.db == db) (cond (listens channels note) (delivery_of sender note ∷ []) []) []

-- what pieces give, one after another
abbrev pub give_all : ℕ → List (List ℕ) → (ℕ → Bool) → List Piece → List Delivery
give_all db channels committed pieces = flat_map (gives db channels committed) pieces

-- there is such a transaction, and it committed
abbrev pub has_committed : Option Tx → Bool
has_committed None = false
has_committed (Some tx) = is_committed tx.fate

-- the transaction with a number, from 3 on, is in the journal and committed
abbrev pub committed_by : List Tx → ℕ → Bool
committed_by journal x = has_committed (entry journal x)

-- which numbers are said to have committed agrees with the fates of transactions, of which the first is numbered x
pub record TellsFates (committed : ℕ → Bool) (x : ℕ) (txs : List Tx) : Type 0 where
  pub each : (k : ℕ) (tx : Tx) → slice_get txs k ≡ Some tx → committed (x + k) ≡ is_committed tx.fate

-- all of its notifications were queued, if it committed
pub record QueuesAll (tx : Tx) : Type 0 where
  pub all : tx.fate ≡ Committed → tx.queued ≡ length tx.notes

-- the number of a piece's transaction is from a number on and below another
pub record IsNumbered (from to : ℕ) (piece : Piece) : Type 0 where
  pub low : from ≤ number_of piece
  pub high : number_of piece < to

-- an entry has a notification that can be sent, and a database
abbrev pub HasContent : Piece → Type 0
HasContent (AnEntry note sender) = IsNote note × (0 < sender.db)
HasContent (AFiller len sender) = Unit {0}

-- the piece is read back from its bytes: they are as many as an entry may have, its numbers fit, and its content can be sent
pub record IsReadable (format : Format) (piece : Piece) : Type 0 where
  pub long : IsEntryLength format (length (piece_bytes format piece))
  pub head : IsHead format (db_of piece) (number_of piece) (pid_of piece)
  pub content : HasContent piece

-- the same piece, as far as its bytes tell: those of a filler do not state its sender's database
abbrev pub IsSamePiece : Piece → Piece → Type 0
IsSamePiece (AnEntry a sender) (AnEntry b other) = (a ≡ b) × (sender ≡ other)
IsSamePiece (AnEntry a sender) (AFiller len other) = ⊥
IsSamePiece (AFiller len sender) (AnEntry b other) = ⊥
IsSamePiece (AFiller len sender) (AFiller len' other) = (len ≡ len') × (sender.xid ≡ other.xid) × (sender.pid ≡ other.pid)

-- what is known of a transaction that has drawn a number, finished or not: its queued notifications can be sent, and its database
-- and its session are in range
pub record IsWritten (tx : Tx) : Type 0 where
  pub queued_notes : All IsNote (take tx.queued tx.notes)
  pub some_db : 0 < tx.db
  pub db_fits : tx.db < 2 ^ 32
  pub session_fits : tx.session ≤ SECTIONS_MAX

-- the transaction of a session in a database with these notifications, of which the first few were queued. Where it isn't
-- finished, it has the fate Committed after an entry and Aborted after a filler
abbrev pub draft : ℕ → ℕ → List Note → ℕ → Fate → Tx
draft session db notes queued fate = record { session = session; db = db; notes = notes; queued = queued; fate = fate }
