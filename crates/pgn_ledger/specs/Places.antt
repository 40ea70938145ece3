-- Places of transactions, one after another.
use Rattle.std.specs.Prelude.{ℕ, List, [], ◌∷◌, length, sum_by}
use Rattle.pgn_base.specs.declared.format.Format.{Format}
use Rattle.pgn_journal.specs.declared.tx.Tx.{Tx}
use Rattle.pgn_journal.specs.Packing.{after}

-- a notification takes at most so many cells
abbrev pub most_cells : ℕ
most_cells = 6146

-- where transactions begin of which the first begins at a place, and where the last ends
abbrev pub places_from : Format → ℕ → List Tx → List ℕ
places_from format at [] = at ∷ []
places_from format at (tx ∷ txs) = at ∷ places_from format (after format at tx) txs

-- how many notifications transactions have
abbrev pub notes_in : List Tx → ℕ
notes_in txs = sum_by (λ tx. length tx.notes) txs
