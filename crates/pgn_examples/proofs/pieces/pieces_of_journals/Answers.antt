use Rattle.std.proofs.Common.{refl, arith}
use Rattle.pgn_journal.specs.Bytes.{entry_length, header, spelled}
use Rattle.pgn_journal.specs.Packing.{after_rest, after_bytes, put_bytes, put, filled_cells, page_rest, entry_cells, note_cells, notes_cells, end_cells, tx_cells, image_from, image}
use Rattle.pgn_journal.specs.Pieces.{note_pieces, notes_pieces, end_pieces, tx_pieces, pieces_from, lay}
use Rattle.pgn_examples.proofs.PieceSteps.{pieces-filler}
use Rattle.std.proofs.lemmas.List.Elements.{All-nil}
use Rattle.pgn_base.specs.Notes.{IsNote}
use Rattle.pgn_examples.specs.Pieces.{nameless}
use Rattle.pgn_examples.proofs.pieces.pieces_of_journals.Goals as goal

pub returns-clause-one : goal.returns-clause-one
unfolding pieces_from tx_pieces end_pieces notes_pieces note_pieces entry_length
returns-clause-one c = refl

pub returns-clause-filled : goal.returns-clause-filled
returns-clause-filled c = pieces-filler

pub returns-clause-aborted : goal.returns-clause-aborted
unfolding pieces_from tx_pieces end_pieces notes_pieces note_pieces entry_length put put_bytes after_bytes after_rest
returns-clause-aborted c = refl

pub returns-clause-none : goal.returns-clause-none
unfolding pieces_from tx_pieces end_pieces notes_pieces
returns-clause-none c = refl

pub returns-clause-laid_pieces : goal.returns-clause-laid_pieces
unfolding lay image image_from tx_cells end_cells notes_cells note_cells entry_cells page_rest filled_cells spelled entry_length header
returns-clause-laid_pieces c = refl

pub returns-clause-unfinished_image : goal.returns-clause-unfinished_image
unfolding image image_from tx_cells end_cells notes_cells note_cells entry_cells page_rest filled_cells spelled entry_length header
returns-clause-unfinished_image c = refl

pub returns-clause-unfinished_pieces : goal.returns-clause-unfinished_pieces
unfolding pieces_from tx_pieces end_pieces notes_pieces note_pieces entry_length
returns-clause-unfinished_pieces c = refl

pub returns-clause-moved : goal.returns-clause-moved
unfolding pieces_from tx_pieces end_pieces notes_pieces note_pieces entry_length put put_bytes after_bytes after_rest
returns-clause-moved c = refl

pub returns-clause-not_queued : goal.returns-clause-not_queued
returns-clause-not_queued c = record { queued_notes = All-nil IsNote; some_db = omega arith; db_fits = omega arith; session_fits = omega arith }

pub returns-clause-queued : goal.returns-clause-queued
returns-clause-queued c = λ written. absurd (omega (arith, (written.queued_notes 1 nameless (omega arith)).name.some))
