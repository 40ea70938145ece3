-- What the bytes of a piece read as.
use Rattle.std.specs.Prelude.{◌≡◌, ℕ, List}
use Rattle.pgn_base.specs.declared.format.Format.{Format}
use Rattle.pgn_base.specs.declared.note.Note.{Note}
use Rattle.pgn_journal.specs.Bytes.{entry_length}
use Rattle.pgn_journal.specs.Packing.{Sender}
use Rattle.pgn_journal.specs.Pieces as pieces
use Rattle.pgn_journal.specs.Pieces.{Piece, piece_bytes, IsReadable}
use Rattle.pgn_entry.specs.Reading.{Reading, AnEntry, AFiller, AFault}

-- bytes are those of a piece
pub record ArePiece (format : Format) (bytes : List ℕ) : Type 0 where
  pub piece : Piece
  pub sound : IsReadable format piece
  pub spelling : bytes ≡ piece_bytes format piece

-- the fields of an entry are its length, its notification and its sender
pub record IsEntryOf (format : Format) (of : Note) (sender : Sender) (len : ℕ) (note : Note) (db xid pid : ℕ) : Type 0 where
  pub stated : len ≡ entry_length format of
  pub same : note ≡ of
  pub from_db : db ≡ sender.db
  pub from_xid : xid ≡ sender.xid
  pub from_pid : pid ≡ sender.pid

-- the fields of a filler are its length and its sender, whose database does not stand in it
pub record IsFillerOf (bytes : ℕ) (sender : Sender) (len xid pid : ℕ) : Type 0 where
  pub stated : len ≡ bytes
  pub from_xid : xid ≡ sender.xid
  pub from_pid : pid ≡ sender.pid

-- what was read is this piece
abbrev pub IsReadAs : Format → Piece → Reading → Type 0
IsReadAs format (pieces.AnEntry note sender) (AnEntry len read db xid pid) = IsEntryOf format note sender len read db xid pid
IsReadAs format (pieces.AnEntry note sender) (AFiller len xid pid) = ⊥
IsReadAs format (pieces.AnEntry note sender) (AFault fault) = ⊥
IsReadAs format (pieces.AFiller bytes sender) (AnEntry len read db xid pid) = ⊥
IsReadAs format (pieces.AFiller bytes sender) (AFiller len xid pid) = IsFillerOf bytes sender len xid pid
IsReadAs format (pieces.AFiller bytes sender) (AFault fault) = ⊥
