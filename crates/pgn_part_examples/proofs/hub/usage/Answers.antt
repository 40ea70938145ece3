use Rattle.std.proofs.Common.{◌≡◌, [], ◌∷◌, refl, arith, rules}
use Rattle.std.proofs.lemmas.List.Elements.{All-contains_itself}
use Rattle.pgn_base.specs.declared.format.Format.TheVariants.{One}
use Rattle.pgn_journal.specs.Bytes.{header, entry_length, spelled}
use Rattle.pgn_journal.specs.Packing.{filled_cells, page_rest, entry_cells, note_cells, notes_cells, end_cells, tx_cells, image_from, image, place}
use Rattle.pgn_journal.specs.QueueUse.{ShowsUsage}
use Rattle.pgn_part_examples.specs.Hub.{tx_3, usage_4}
use Rattle.pgn_part_examples.proofs.hub.usage.Goals as goal

shown : ShowsUsage One 2 (tx_3 ∷ []) usage_4
unfolding place image image_from tx_cells end_cells notes_cells note_cells entry_cells page_rest filled_cells spelled entry_length header
shown = record { limited = refl; in_journal = omega arith; floor_below = omega arith; in_use = refl; holder = search rules }

pub returns-clause-met : goal.returns-clause-met
returns-clause-met c = record {
  more = [];
  named = (1, 3) ∷ (1, 3) ∷ [];
  number = refl;
  known = refl;
  shows = shown;
  looked = search rules;
  floor = search rules;
  met = search rules;
}

pub returns-clause-reads_between_looks : goal.returns-clause-reads_between_looks
returns-clause-reads_between_looks c = record {
  more = [];
  named = (1, 3) ∷ (1, 4) ∷ [];
  number = refl;
  known = refl;
  shows = shown;
  looked = search rules;
  floor = search rules;
  met = All-contains_itself ((1, 3) ∷ (1, 4) ∷ []);
}

pub returns-clause-joins_between_looks : goal.returns-clause-joins_between_looks
returns-clause-joins_between_looks c = record {
  more = [];
  named = (1, 3) ∷ [];
  number = refl;
  known = refl;
  shows = shown;
  looked = search rules;
  floor = search rules;
  met = search rules;
}

pub returns-clause-a_page_more : goal.returns-clause-a_page_more
unfolding place image image_from tx_cells end_cells notes_cells note_cells entry_cells page_rest filled_cells spelled entry_length header
returns-clause-a_page_more c h = let more : 1 ≡ 0 = h.shows.in_use in omega (arith, more)

pub returns-clause-floor_above_a_mark : goal.returns-clause-floor_above_a_mark
returns-clause-floor_above_a_mark c h = omega (arith, h.floor.least 0 (1, 3) (omega arith))

pub returns-clause-floor_of_the_second_look : goal.returns-clause-floor_of_the_second_look
returns-clause-floor_of_the_second_look c h = omega (arith, h.floor.least 0 (1, 3) (omega arith))

pub returns-clause-floor_of_the_first_look : goal.returns-clause-floor_of_the_first_look
returns-clause-floor_of_the_first_look c h = omega (arith, h.floor.least 0 (1, 3) (omega arith))
