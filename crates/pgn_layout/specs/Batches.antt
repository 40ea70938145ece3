-- The batches in which notifications are written: each on one page, and each from the place where the one before it ends.
use Rattle.std.specs.Prelude.{◌≡◌, ◌≢◌, ℕ, ◌-◌, ◌<◌, ◌≤◌, ◌⊎◌, ◌==◌, true, false, cond, List, [], ◌∷◌, ◌++◌, length, take, drop, replicate, Option, None}
use Rattle.std.specs.List.{flat_map}
use Rattle.pgn_base.specs.declared.format.Format.{Format}
use Rattle.pgn_base.specs.declared.note.Note.{Note}
use Rattle.pgn_journal.specs.Bytes.{entry_length, spelled, filler}
use Rattle.pgn_journal.specs.Packing.{Sender, next_page, bytes_left, fits, filled_cells, filler_cells, notes_cells, put, put_all}
use Rattle.pgn_layout.specs.declared.batch.Batch.{Batch}

-- the entry of a notification fits on the page of a place, and where more follow, the page goes on after it
pub record FitsBefore (format : Format) (at : ℕ) (note : Note) (more : List Note) : Type 0 where
  pub here : fits at (entry_length format note) ≡ true
  pub goes_on : more ≢ [] → put format at note < next_page at

-- the entries of notifications lie on one page, one after another from a place on
abbrev pub Runs : Format → ℕ → List Note → Type 0
Runs format at [] = Unit {0}
Runs format at (note ∷ notes) = FitsBefore format at note notes × Runs format (put format at note) notes

-- the entry of the first of notifications does not fit on the page of a place
abbrev pub FirstIsTooLong : Format → ℕ → List Note → Type 0
FirstIsTooLong format at [] = ⊥
FirstIsTooLong format at (note ∷ notes) = fits at (entry_length format note) ≡ false

-- a batch of entries alone: it ends with the last notification, or where the next page begins
pub record IsWhole (format : Format) (at : ℕ) (notes : List Note) (batch : Batch) : Type 0 where
  pub count : batch.fits ≤ length notes
  pub entries : Runs format at (take batch.fits notes)
  pub no_filler : batch.filler ≡ 0
  pub ends : batch.next ≡ put_all format at (take batch.fits notes)
  pub stops : (batch.fits ≡ length notes) ⊎ (batch.next ≡ next_page at)

-- a batch with a filler: the notification after its entries does not fit on the rest of the page, which the filler takes
pub record IsFilled (format : Format) (at : ℕ) (notes : List Note) (batch : Batch) : Type 0 where
  pub count : batch.fits ≤ length notes
  pub entries : Runs format at (take batch.fits notes)
  -- the page goes on after them
  pub left : put_all format at (take batch.fits notes) < next_page at
  pub too_long : FirstIsTooLong format (put_all format at (take batch.fits notes)) (drop batch.fits notes)
  pub rest : batch.filler ≡ bytes_left (put_all format at (take batch.fits notes))
  pub ends : batch.next ≡ next_page at

-- the batch that is written next of notifications, from a place on
pub data IsPlanned (format : Format) (at : ℕ) (notes : List Note) (batch : Batch) : Type 0 where
  Whole : IsWhole format at notes batch → IsPlanned format at notes batch
  Filled : IsFilled format at notes batch → IsPlanned format at notes batch

-- What batches write.

-- so many empty cells
abbrev pub empty_cells : ℕ → List (Option ℕ)
empty_cells count = replicate count None

-- cells, and empty ones up to a place: what a reader finds before the head, once it stands there
abbrev pub padded_to : ℕ → List (Option ℕ) → List (Option ℕ)
padded_to to cells = cells ++ empty_cells (to - length cells)

-- the cells of a notification's entry
abbrev pub entry_of : Format → Sender → Note → List (Option ℕ)
entry_of format sender note = filled_cells (spelled format note sender.db sender.xid sender.pid)

-- the cells of the entries of notifications, one after another with nothing between
abbrev pub entries_of : Format → Sender → List Note → List (Option ℕ)
entries_of format sender notes = flat_map (entry_of format sender) notes

-- the cells of a batch: those of its entries, and those of its filler, if it has one
abbrev pub batch_cells : Format → Sender → List Note → Batch → List (Option ℕ)
batch_cells format sender notes batch =
    entries_of format sender (take batch.fits notes) ++ cond (batch.filler == 0) [] (filled_cells (filler format batch.filler sender.xid sender.pid))

-- each batch is planned from the place where the one before it ends, for the notifications that are left, and the last leaves none
abbrev pub AreBatches : Format → ℕ → List Note → List Batch → Type 0
AreBatches format at notes [] = notes ≡ []
AreBatches format at notes (batch ∷ batches) = IsPlanned format at notes batch × AreBatches format batch.next (drop batch.fits notes) batches

-- the place after batches
abbrev pub batches_end : ℕ → List Batch → ℕ
batches_end at [] = at
batches_end at (batch ∷ batches) = batches_end batch.next batches

-- cells, and behind them the cells of batches, each padded up to the place where it ends
abbrev pub with_batches : Format → Sender → List (Option ℕ) → List Note → List Batch → List (Option ℕ)
with_batches format sender cells notes [] = cells
with_batches format sender cells notes (batch ∷ batches) =
    with_batches format sender (padded_to batch.next (cells ++ batch_cells format sender notes batch)) (drop batch.fits notes) batches

-- the lengths of the fillers of batches
abbrev pub batch_fillers : List Batch → List ℕ
batch_fillers batches = flat_map (λ batch. cond (batch.filler == 0) [] (batch.filler ∷ [])) batches

-- the lengths of the fillers that are needed where notifications are put one after another from a place on
abbrev pub fillers_from : Format → ℕ → List Note → List ℕ
fillers_from format at [] = []
fillers_from format at (note ∷ notes) = cond (fits at (entry_length format note)) [] (bytes_left at ∷ []) ++ fillers_from format (put format at note) notes

-- How far a writer has come, between two batches.

-- behind cells that were there lie the first few of notifications, and the place is their end
pub record StandAfterNotes (format : Format) (sender : Sender) (before : List (Option ℕ)) (notes : List Note) (count at : ℕ) (cells : List (Option ℕ)) : Type 0 where
  pub within : count ≤ length notes
  pub ends : at ≡ put_all format (length before) (take count notes)
  pub cells_are : cells ≡ before ++ notes_cells format sender (length before) (take count notes)

-- behind cells that were there lie the first few of notifications and a filler, since the next one does not fit on that page
pub record StandAfterFiller (format : Format) (sender : Sender) (before : List (Option ℕ)) (notes : List Note) (count at : ℕ) (cells : List (Option ℕ)) : Type 0 where
  pub within : count ≤ length notes
  pub too_long : FirstIsTooLong format (put_all format (length before) (take count notes)) (drop count notes)
  pub ends : at ≡ next_page (put_all format (length before) (take count notes))
  pub cells_are : cells ≡ before ++ notes_cells format sender (length before) (take count notes) ++ filler_cells format sender (put_all format (length before) (take count notes))

-- the cells that the head shows once the first few of notifications were written behind cells that were there, batch by batch
pub data IsPlaced (format : Format) (sender : Sender) (before : List (Option ℕ)) (notes : List Note) (count at : ℕ) (cells : List (Option ℕ)) : Type 0 where
  AfterNotes : StandAfterNotes format sender before notes count at cells → IsPlaced format sender before notes count at cells
  AfterFiller : StandAfterFiller format sender before notes count at cells → IsPlaced format sender before notes count at cells
