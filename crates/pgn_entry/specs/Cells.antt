-- What the cells of an entry are made of.
use Rattle.std.specs.Prelude.{◌≡◌, ℕ}
use Rattle.pgn_base.specs.declared.format.Format.{Format}
use Rattle.pgn_base.specs.declared.format.Format.TheVariants.{One, Two}
use Rattle.pgn_base.specs.declared.note.Note.{Note}
use Rattle.pgn_journal.specs.Bytes.{entry_length}
use Rattle.pgn_entry.specs.declared.cells.EntryCells.{EntryCells}

-- the process number of an entry's sender stands in the cell of this number
abbrev pub pid_place : Format → ℕ
pid_place One = 3
pid_place Two = 4

-- the numbers and the texts are those of a notification's entry
pub record AreCellsOf (format : Format) (note : Note) (db xid pid : ℕ) (cells : EntryCells) : Type 0 where
  pub len : cells.len ≡ entry_length format note
  pub db_is : cells.db ≡ db
  pub xid_is : cells.xid ≡ xid
  pub pid_is : cells.pid ≡ pid
  pub channel : cells.channel.now ≡ note.channel
  pub payload : cells.payload.now ≡ note.payload
