use Rattle.pgn_journal.proofs.PackingLemmas.{first_place, images_agree, last_place, next_place, note_moves, notes_in_turn, pages_hold, place_bound, place_folds, place_grows, place_rises, places_agree, put_takes}
use Rattle.pgn_laws.proofs.PackingLaws.{aborted_ends, cells_apart, cells_give_bytes, cells_of_each, is_packed, leaves_room}
use Rattle.pgn_laws.proofs.journal.packing.Goals as goal

pub returns-clause-first_place : goal.returns-clause-first_place
returns-clause-first_place c = first_place

pub returns-clause-next_place : goal.returns-clause-next_place
returns-clause-next_place c = next_place

pub returns-clause-last_place : goal.returns-clause-last_place
returns-clause-last_place c = last_place

pub returns-clause-cells_give_bytes : goal.returns-clause-cells_give_bytes
returns-clause-cells_give_bytes c = cells_give_bytes

pub returns-clause-is_packed : goal.returns-clause-is_packed
returns-clause-is_packed c = is_packed

pub returns-clause-place_folds : goal.returns-clause-place_folds
returns-clause-place_folds c = place_folds

pub returns-clause-leaves_room : goal.returns-clause-leaves_room
returns-clause-leaves_room c = leaves_room

pub returns-clause-put_takes : goal.returns-clause-put_takes
returns-clause-put_takes c = put_takes

pub returns-clause-pages_hold : goal.returns-clause-pages_hold
returns-clause-pages_hold c = pages_hold

pub returns-clause-note_moves : goal.returns-clause-note_moves
returns-clause-note_moves c = note_moves

pub returns-clause-notes_in_turn : goal.returns-clause-notes_in_turn
returns-clause-notes_in_turn c = notes_in_turn

pub returns-clause-place_grows : goal.returns-clause-place_grows
returns-clause-place_grows c = place_grows

pub returns-clause-place_rises : goal.returns-clause-place_rises
returns-clause-place_rises c = place_rises

pub returns-clause-place_bound : goal.returns-clause-place_bound
returns-clause-place_bound c = place_bound

pub returns-clause-aborted_ends : goal.returns-clause-aborted_ends
returns-clause-aborted_ends c = aborted_ends

pub returns-clause-places_agree : goal.returns-clause-places_agree
returns-clause-places_agree c = places_agree

pub returns-clause-images_agree : goal.returns-clause-images_agree
returns-clause-images_agree c = images_agree

pub returns-clause-cells_of_each : goal.returns-clause-cells_of_each
returns-clause-cells_of_each c = cells_of_each

pub returns-clause-cells_apart : goal.returns-clause-cells_apart
returns-clause-cells_apart c = cells_apart
