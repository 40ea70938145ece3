use Rattle.pgn_journal.proofs.PieceLaws.{pieces_in_turn, image_is_laid, pieces_split, image_drops, journal_is_cut, pieces_give_due, pieces_give_all_due, finished_queue_all, pieces_are_numbered, pieces_are_readable, piece_advances, piece_has_bytes, first_cells, third_cell, cells_hold_numbers}
use Rattle.pgn_laws.proofs.PieceLaws.{transactions_are_packed, journal_tells_fates, numbers_rise, piece_reads_back, numbers_give_bytes}
use Rattle.pgn_laws.proofs.journal.pieces.Goals as goal

pub returns-clause-pieces_in_turn : goal.returns-clause-pieces_in_turn
returns-clause-pieces_in_turn c = pieces_in_turn

pub returns-clause-image_is_laid : goal.returns-clause-image_is_laid
returns-clause-image_is_laid c = image_is_laid

pub returns-clause-transactions_are_packed : goal.returns-clause-transactions_are_packed
returns-clause-transactions_are_packed c = transactions_are_packed

pub returns-clause-pieces_split : goal.returns-clause-pieces_split
returns-clause-pieces_split c = pieces_split

pub returns-clause-image_drops : goal.returns-clause-image_drops
returns-clause-image_drops c = image_drops

pub returns-clause-journal_is_cut : goal.returns-clause-journal_is_cut
returns-clause-journal_is_cut c = journal_is_cut

pub returns-clause-pieces_give_due : goal.returns-clause-pieces_give_due
returns-clause-pieces_give_due c = pieces_give_due

pub returns-clause-pieces_give_all_due : goal.returns-clause-pieces_give_all_due
returns-clause-pieces_give_all_due c = pieces_give_all_due

pub returns-clause-finished_queue_all : goal.returns-clause-finished_queue_all
returns-clause-finished_queue_all c = finished_queue_all

pub returns-clause-journal_tells_fates : goal.returns-clause-journal_tells_fates
returns-clause-journal_tells_fates c = journal_tells_fates

pub returns-clause-pieces_are_numbered : goal.returns-clause-pieces_are_numbered
returns-clause-pieces_are_numbered c = pieces_are_numbered

pub returns-clause-numbers_rise : goal.returns-clause-numbers_rise
returns-clause-numbers_rise c = numbers_rise

pub returns-clause-pieces_are_readable : goal.returns-clause-pieces_are_readable
returns-clause-pieces_are_readable c = pieces_are_readable

pub returns-clause-piece_advances : goal.returns-clause-piece_advances
returns-clause-piece_advances c = piece_advances

pub returns-clause-piece_has_bytes : goal.returns-clause-piece_has_bytes
returns-clause-piece_has_bytes c = piece_has_bytes

pub returns-clause-piece_reads_back : goal.returns-clause-piece_reads_back
returns-clause-piece_reads_back c = piece_reads_back

pub returns-clause-first_cells : goal.returns-clause-first_cells
returns-clause-first_cells c = first_cells

pub returns-clause-third_cell : goal.returns-clause-third_cell
returns-clause-third_cell c = third_cell

pub returns-clause-numbers_give_bytes : goal.returns-clause-numbers_give_bytes
returns-clause-numbers_give_bytes c = numbers_give_bytes

pub returns-clause-cells_hold_numbers : goal.returns-clause-cells_hold_numbers
returns-clause-cells_hold_numbers c = cells_hold_numbers
