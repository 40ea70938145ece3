-- A reader's way over the pieces that the head shows.
use Rattle.std.specs.Prelude.{◌≡◌, ℕ, ◌+◌, ◌^◌, ◌<◌, ◌≤◌, ◌==◌, cond, List, [], ◌∷◌, ◌++◌, length, drop, Option, Some, None, slice_get, All}
use Rattle.pgn_base.specs.declared.limits.TheConstants.{FIRST_XID}
use Rattle.pgn_base.specs.declared.format.Format.{Format}
use Rattle.pgn_base.specs.declared.note.Note.{Note}
use Rattle.pgn_base.specs.declared.note.Delivery.{Delivery}
use Rattle.pgn_journal.specs.declared.tx.Tx.{Tx}
use Rattle.pgn_journal.specs.Journal.{next_xid}
use Rattle.pgn_journal.specs.Packing.{Sender, HasRoom, entry_cells, image}
use Rattle.pgn_journal.specs.Pieces.{Piece, AnEntry, piece_bytes, number_of, lay, give_all, committed_by, IsNumbered, IsReadable}
use Rattle.pgn_words.specs.declared.view.View.{View}

-- a piece lies at a place, and can be read
pub record StandsAt (format : Format) (cells : List (Option ℕ)) (at : ℕ) (piece : Piece) : Type 0 where
  pub more : List (Option ℕ)
  pub cells_are : drop at cells ≡ entry_cells format at (piece_bytes format piece) ++ more
  pub readable : IsReadable format piece
  -- its number fits in a cell
  pub small : number_of piece < 2 ^ 32

-- a loaded number is that of a cell
abbrev pub IsCell : List (Option ℕ) → ℕ → ℕ → Type 0
IsCell cells at x = (n : ℕ) → slice_get cells at ≡ Some (Some n) → x ≡ n

-- From a place on lie pieces whose numbers are below `fin`, up to an end, and behind them those whose numbers are not.
pub record IsOnWay (format : Format) (cells : List (Option ℕ)) (fin at end : ℕ) (todo later : List Piece) : Type 0 where
  pub laid : drop at cells ≡ lay format at (todo ++ later)
  pub below : All (IsNumbered FIRST_XID fin) todo
  pub above : All (λ piece. fin ≤ number_of piece) later
  pub readable : All (IsReadable format) (todo ++ later)
  pub small : All (λ piece. number_of piece < 2 ^ 32) (todo ++ later)
  pub room : HasRoom format at
  pub within : at ≤ length cells
  pub comes : at + length (lay format at todo) ≡ end

-- a way leads from a place to an end
pub record Leads (format : Format) (cells : List (Option ℕ)) (fin at end : ℕ) : Type 0 where
  pub todo : List Piece
  pub later : List Piece
  pub way : IsOnWay format cells fin at end todo later

-- a way leads from a place to some end
pub record HasWay (format : Format) (cells : List (Option ℕ)) (fin at : ℕ) : Type 0 where
  pub end : ℕ
  pub leads : Leads format cells fin at end

-- a way leads from a place to an end, and what its pieces give to a reader, behind what it has, is what it is owed
pub record Walks (format : Format) (cells : List (Option ℕ)) (fin db : ℕ) (channels : List (List ℕ)) (seen : List Tx) (at end : ℕ) (got owed : List Delivery) : Type 0 where
  pub todo : List Piece
  pub later : List Piece
  pub way : IsOnWay format cells fin at end todo later
  pub adds : got ++ give_all db channels (committed_by seen) todo ≡ owed

-- a way leads from a place to some end, with something owed
pub record IsWalking (format : Format) (cells : List (Option ℕ)) (fin db : ℕ) (channels : List (List ℕ)) (seen : List Tx) (at : ℕ) (got : List Delivery) : Type 0 where
  pub end : ℕ
  pub owed : List Delivery
  pub walks : Walks format cells fin db channels seen at end got owed

-- where one more turn leads: to the end, or further on
abbrev pub Turns : Format → List (Option ℕ) → ℕ → ℕ → List (List ℕ) → List Tx → ℕ → ℕ → List Delivery → List Delivery → Option ℕ → Type 0
Turns format cells fin db channels seen at end got owed None = (at ≡ end) × (got ≡ owed)
Turns format cells fin db channels seen at end got owed (Some next) = (at < next) × Walks format cells fin db channels seen next end got owed

-- from wherever a way led, one more turn has led on, and what the reader has begins with what it had
pub record HasTurned (format : Format) (cells : List (Option ℕ)) (fin db : ℕ) (channels : List (List ℕ)) (seen : List Tx) (at : ℕ) (before after : List Delivery) (next : Option ℕ) : Type 0 where
  pub turns : (end : ℕ) (owed : List Delivery) → Walks format cells fin db channels seen at end before owed → Turns format cells fin db channels seen at end after owed next
  pub more : List Delivery
  pub after_is : after ≡ before ++ more

-- the cells that the head shows to a reader
abbrev pub shown_cells : View → List (Option ℕ)
shown_cells v = image v.setup.format v.walk.shown

-- the sum of the bytes before the first zero byte
abbrev pub sum_to_zero : List ℕ → ℕ
sum_to_zero [] = 0
sum_to_zero (byte ∷ bytes) = cond (byte == 0) 0 (byte + sum_to_zero bytes)

-- bytes are those of an entry
pub record HasEntry (format : Format) (bytes : List ℕ) : Type 0 where
  pub note : Note
  pub sender : Sender
  pub readable : IsReadable format (AnEntry note sender)
  pub spelling : bytes ≡ piece_bytes format (AnEntry note sender)

-- what was read are parts of an entry
pub record ArePartsOf (note : Note) (sender : Sender) (xid pid : ℕ) (channel payload : List ℕ) : Type 0 where
  pub xid_is : xid ≡ sender.xid
  pub pid_is : pid ≡ sender.pid
  pub channel_is : channel ≡ note.channel
  pub payload_is : payload ≡ note.payload

-- bytes are those of an entry of a finished transaction of a database
pub record IsDueEntry (format : Format) (db : ℕ) (seen : List Tx) (bytes : List ℕ) (note : Note) (sender : Sender) : Type 0 where
  pub readable : IsReadable format (AnEntry note sender)
  pub spelling : bytes ≡ piece_bytes format (AnEntry note sender)
  pub of_db : sender.db ≡ db
  pub numbered : IsNumbered FIRST_XID (next_xid seen) (AnEntry note sender)

-- bytes are those of some such entry
pub record HasDueEntry (format : Format) (db : ℕ) (seen : List Tx) (bytes : List ℕ) : Type 0 where
  pub note : Note
  pub sender : Sender
  pub due : IsDueEntry format db seen bytes note sender

-- the entry of a finished transaction of a database lies at a place, in so many bytes
pub record IsEntryAt (format : Format) (cells : List (Option ℕ)) (at len db : ℕ) (seen : List Tx) (note : Note) (sender : Sender) : Type 0 where
  pub stands : StandsAt format cells at (AnEntry note sender)
  pub long : len ≡ length (piece_bytes format (AnEntry note sender))
  pub of_db : sender.db ≡ db
  pub numbered : IsNumbered FIRST_XID (next_xid seen) (AnEntry note sender)

-- some such entry lies there
pub record HasEntryAt (format : Format) (cells : List (Option ℕ)) (at len db : ℕ) (seen : List Tx) : Type 0 where
  pub note : Note
  pub sender : Sender
  pub entry : IsEntryAt format cells at len db seen note sender
