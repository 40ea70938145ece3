use Rattle.std.proofs.Common.{refl, ap, arith}
use Rattle.pgn_journal.specs.Bytes.{header, entry_length, spelled}
use Rattle.pgn_journal.specs.Packing.{filled_cells, page_rest, entry_cells, note_cells, notes_cells, end_cells, tx_cells, image_from, image, place, page_of}
use Rattle.pgn_base.specs.declared.format.Format.TheVariants.{One}
use Rattle.pgn_examples.specs.Packing.{full_journal}
use Rattle.pgn_journal.proofs.PackingLemmas.{first_place}
use Rattle.pgn_examples.proofs.PackingSteps.{full_4, full_5, full_6, full_7, full_8, larger_end, larger_4, larger_5}
use Rattle.pgn_examples.proofs.packing.places.Goals as goal

pub returns-clause-one_entry : goal.returns-clause-one_entry
unfolding place image image_from tx_cells end_cells notes_cells note_cells entry_cells page_rest filled_cells spelled entry_length header
returns-clause-one_entry c = refl

pub returns-clause-cells_of_one : goal.returns-clause-cells_of_one
unfolding image image_from tx_cells end_cells notes_cells note_cells entry_cells page_rest filled_cells spelled entry_length header
returns-clause-cells_of_one c = refl

pub returns-clause-full_places : goal.returns-clause-full_places
returns-clause-full_places c = cc (first_place One full_journal, full_4, full_5, full_6, full_7, full_8)

pub returns-clause-queued_of_larger : goal.returns-clause-queued_of_larger
returns-clause-queued_of_larger c = larger_end

pub returns-clause-larger_places : goal.returns-clause-larger_places
returns-clause-larger_places c = cc (larger_4, larger_5)

pub returns-clause-page_of_larger : goal.returns-clause-page_of_larger
returns-clause-page_of_larger c = ap page_of larger_4

pub returns-clause-room_odd_cell_of_two : goal.returns-clause-room_odd_cell_of_two
returns-clause-room_odd_cell_of_two c = λ h. let e = h.whole in absurd (omega (arith, e))

pub returns-clause-room_too_late : goal.returns-clause-room_too_late
returns-clause-room_too_late c = λ h. let e = h.least in absurd (omega (arith, e))

pub returns-clause-room_too_late_of_two : goal.returns-clause-room_too_late_of_two
returns-clause-room_too_late_of_two c = λ h. let e = h.least in absurd (omega (arith, e))
