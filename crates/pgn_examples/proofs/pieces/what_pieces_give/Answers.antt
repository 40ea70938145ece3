use Rattle.std.proofs.Common.{refl}
use Rattle.pgn_journal.specs.Bytes.{entry_length}
use Rattle.pgn_journal.specs.Packing.{after_rest, after_bytes, put_bytes, put, ended, after}
use Rattle.pgn_journal.specs.Pieces.{note_pieces, notes_pieces, end_pieces, tx_pieces, pieces_from}
use Rattle.pgn_examples.proofs.pieces.what_pieces_give.Goals as goal

pub returns-clause-all : goal.returns-clause-all
unfolding pieces_from tx_pieces end_pieces notes_pieces note_pieces entry_length put put_bytes after_bytes after_rest after ended
returns-clause-all c = refl

pub returns-clause-numbers : goal.returns-clause-numbers
unfolding pieces_from tx_pieces end_pieces notes_pieces note_pieces entry_length put put_bytes after_bytes after_rest after ended
returns-clause-numbers c = refl
