-- Worked examples of batches.
use Rattle.std.specs.Prelude.{List, [], ◌∷◌}
use Rattle.std.specs.Str.{byte}
use Rattle.pgn_base.specs.declared.note.Note.{Note}
use Rattle.pgn_journal.specs.Packing.{place_at}
use Rattle.pgn_examples.specs.Packing.{letters, longest_note}
use Rattle.pgn_layout.specs.declared.batch.Batch.{Batch}

-- three notifications whose entries fill the first page to its end
abbrev pub to_the_edge : List Note
to_the_edge = letters (byte "x") 7999 ∷ letters (byte "x") 133 ∷ letters (byte "x") 1 ∷ []

-- three of which the last does not fit on it
abbrev pub over_the_edge : List Note
over_the_edge = letters (byte "x") 7999 ∷ letters (byte "x") 133 ∷ letters (byte "x") 5 ∷ []

-- the batches in which they are written
abbrev pub first_batch : Batch
first_batch = record { fits = 2; filler = 20; next = place_at 1 0 }

abbrev pub last_batch : Batch
last_batch = record { fits = 1; filler = 0; next = place_at 1 24 }

-- the same in format Two: three notifications whose entries fill the first page to its end
abbrev pub to_the_edge_two : List Note
to_the_edge_two = longest_note ∷ letters (byte "x") 45 ∷ letters (byte "x") 5 ∷ []

-- three of which the last does not fit on it
abbrev pub over_the_edge_two : List Note
over_the_edge_two = longest_note ∷ letters (byte "x") 45 ∷ letters (byte "x") 13 ∷ []

-- the batches in which they are written
abbrev pub first_batch_two : Batch
first_batch_two = record { fits = 2; filler = 32; next = place_at 1 0 }

abbrev pub last_batch_two : Batch
last_batch_two = record { fits = 1; filler = 0; next = place_at 1 40 }
