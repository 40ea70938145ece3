-- The bytes of a piece read as its fields.
use Rattle.std.proofs.Common.{◌≡◌, List, ℕ, [], refl, sym, ◌∙◌, subst, append-nil}
use Rattle.pgn_base.specs.declared.format.Format.{Format}
use Rattle.pgn_journal.specs.Bytes.{entry_length, spelled, filler, IsEntryLength}
use Rattle.pgn_journal.specs.Pieces as pieces
use Rattle.pgn_journal.specs.Pieces.{Piece, piece_bytes, IsReadable}
use Rattle.pgn_journal.proofs.PieceLaws.{piece_has_bytes}
use Rattle.pgn_entry.specs.declared.entry_fault.EntryFault.{EntryFault}
use Rattle.pgn_entry.specs.Pieces.{ArePiece, IsReadAs}
use Rattle.pgn_entry.specs.Reading.{Reading, AnEntry, AFiller, AFault, ReadsAs}
use Rattle.pgn_entry.proofs.AnswerLaws.{reads_as_one}

-- what a piece's bytes read as
abbrev reading_of : Format → Piece → Reading
reading_of format (pieces.AnEntry note sender) = AnEntry (entry_length format note) note sender.db sender.xid sender.pid
reading_of format (pieces.AFiller len sender) = AFiller len sender.xid sender.pid

reading_is : (format : Format) (piece : Piece) → IsReadAs format piece (reading_of format piece)
reading_is format (pieces.AnEntry note sender) = record { stated = refl; same = refl; from_db = refl; from_xid = refl; from_pid = refl }
reading_is format (pieces.AFiller len sender) = record { stated = refl; from_xid = refl; from_pid = refl }

reads : (format : Format) (piece : Piece) (bytes : List ℕ) → IsReadable format piece → bytes ≡ piece_bytes format piece → ReadsAs format bytes (reading_of format piece)
reads format (pieces.AnEntry note sender) bytes sound e =
    (refl, record { valid = sound.content.0; numbers = sound.head; of_database = sound.content.1; rest = []; spelling = e ∙ sym (append-nil (spelled format note sender.db sender.xid sender.pid)) })
reads format (pieces.AFiller len sender) bytes sound e = record {
  valid = subst (λ n. IsEntryLength format n) (piece_has_bytes.stated format (pieces.AFiller len sender) sound) sound.long;
  numbers = sound.head;
  rest = [];
  spelling = e ∙ sym (append-nil (filler format len sender.xid sender.pid));
}

-- whatever a piece's bytes read as is the piece
pub piece-read : (format : Format) (piece : Piece) (bytes : List ℕ) (answer : Reading) → IsReadable format piece → bytes ≡ piece_bytes format piece → ReadsAs format bytes answer → IsReadAs format piece answer
piece-read format piece bytes answer sound e r =
    subst (λ t. IsReadAs format piece t) (reads_as_one format bytes (reading_of format piece) answer (reads format piece bytes sound e) r) (reading_is format piece)

-- a piece is no fault
no-fault : (format : Format) (piece : Piece) (fault : EntryFault) → IsReadAs format piece (AFault fault) → ⊥
no-fault format (pieces.AnEntry note sender) fault h = h
no-fault format (pieces.AFiller len sender) fault h = h

-- bytes of which a piece is known are not refused
pub never-refused : (format : Format) (bytes : List ℕ) (fault : EntryFault) → ArePiece format bytes → ReadsAs format bytes (AFault fault) → ⊥
never-refused format bytes fault h r = no-fault format h.piece fault (piece-read format h.piece bytes (AFault fault) h.sound h.spelling r)
