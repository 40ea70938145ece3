-- A writer that goes from batch to batch.
use Rattle.std.proofs.Common.{◌≡◌, ℕ, ◌+◌, ◌≤◌, List, [], ◌∷◌, ◌++◌, length, drop, Option, sym, ap, ◌∙◌, subst, arith}
use Rattle.std.specs.Prelude.{All}
use Rattle.std.proofs.lemmas.List.{length-drop, drop-drop, take_all}
use Rattle.pgn_base.specs.declared.format.Format.{Format}
use Rattle.pgn_base.specs.declared.note.Note.{Note}
use Rattle.pgn_base.specs.Notes.{IsNote}
use Rattle.pgn_journal.specs.Packing.{Sender, notes_cells, put_all, HasRoom}
use Rattle.pgn_layout.specs.declared.batch.Batch.{Batch}
use Rattle.pgn_layout.specs.Batches.{padded_to, batch_cells, AreBatches, batches_end, with_batches, IsPlaced, AfterNotes, AfterFiller}
use Rattle.pgn_layout.specs.Laws.{PlacingEnds, BatchesArePut}
use Rattle.pgn_laws.proofs.FillerLaws.{batches_fillers, batches_ends}
use Rattle.pgn_layout.proofs.PlacingLaws.{placing_begins, placing_stands, placing_goes_on, none_left, placed_is_draft}

all_end : (format : Format) (sender : Sender) (before : List (Option ℕ)) (notes : List Note) (at : ℕ) (cells : List (Option ℕ))
    → IsPlaced format sender before notes (length notes) at cells → at ≡ put_all format (length before) notes
all_end format sender before notes at cells (AfterNotes stands) = stands.ends ∙ ap (put_all format (length before)) (take_all (length notes) notes (omega arith))
all_end format sender before notes at cells (AfterFiller stands) = absurd (none_left format _ notes stands.too_long)

all_cells : (format : Format) (sender : Sender) (before : List (Option ℕ)) (notes : List Note) (at : ℕ) (cells : List (Option ℕ))
    → IsPlaced format sender before notes (length notes) at cells → cells ≡ before ++ notes_cells format sender (length before) notes
all_cells format sender before notes at cells (AfterNotes stands) =
    stands.cells_are ∙ ap (λ ns. before ++ notes_cells format sender (length before) ns) (take_all (length notes) notes (omega arith))
all_cells format sender before notes at cells (AfterFiller stands) = absurd (none_left format _ notes stands.too_long)

pub placing_ends : PlacingEnds
placing_ends = record { at_end = all_end; cells = all_cells }

-- nothing is left, so all are placed
all_placed : (notes : List Note) (count : ℕ) → count ≤ length notes → drop count notes ≡ [] → count ≡ length notes
all_placed notes count h none = omega (arith, ap length none, length-drop count notes)

placed_some : (format : Format) (sender : Sender) (before : List (Option ℕ)) (notes : List Note) (count at : ℕ) (cells : List (Option ℕ))
    → IsPlaced format sender before notes count at cells → count ≤ length notes
placed_some format sender before notes count at cells (AfterNotes stands) = stands.within
placed_some format sender before notes count at cells (AfterFiller stands) = stands.within

-- batches for the notifications that are left place all of them
all_batches : (format : Format) (sender : Sender) (before : List (Option ℕ)) (notes : List Note) (count at : ℕ) (cells : List (Option ℕ)) (batches : List Batch)
    → HasRoom format (length before) → All IsNote notes → IsPlaced format sender before notes count at cells → AreBatches format at (drop count notes) batches
    → IsPlaced format sender before notes (length notes) (batches_end at batches) (with_batches format sender cells (drop count notes) batches)
all_batches format sender before notes count at cells [] room valid placed are =
    let all : count ≡ length notes = all_placed notes count (placed_some format sender before notes count at cells placed) are in
    subst (λ (n : ℕ). IsPlaced format sender before notes n at cells) all placed
all_batches format sender before notes count at cells (batch ∷ batches) room valid placed are =
    let rest = drop count notes in
    let next = padded_to batch.next (cells ++ batch_cells format sender rest batch) in
    let left : drop batch.fits rest ≡ drop (count + batch.fits) notes = drop-drop batch.fits count notes in
    let further = placing_goes_on format sender before notes count at cells batch room valid placed are.0 in
    let more : AreBatches format batch.next (drop (count + batch.fits) notes) batches = subst (λ (ns : List Note). AreBatches format batch.next ns batches) left are.1 in
    subst (λ (ns : List Note). IsPlaced format sender before notes (length notes) (batches_end batch.next batches) (with_batches format sender next ns batches)) (sym left)
    (all_batches format sender before notes (count + batch.fits) batch.next next batches room valid further more)

batches_cells : (format : Format) (sender : Sender) (before : List (Option ℕ)) (notes : List Note) (batches : List Batch) → HasRoom format (length before) → All IsNote notes
    → AreBatches format (length before) notes batches → with_batches format sender before notes batches ≡ before ++ notes_cells format sender (length before) notes
batches_cells format sender before notes batches room valid are =
    all_cells format sender before notes (batches_end (length before) batches) (with_batches format sender before notes batches)
    (all_batches format sender before notes 0 (length before) before batches room valid (placing_begins format sender before notes) are)

pub batches_are_put : BatchesArePut
batches_are_put = record { ends = batches_ends; fillers = batches_fillers; cells = batches_cells }

-- the laws of a writer that places batch after batch
pub ruleset placing_laws = (placing_begins, placing_stands, placing_goes_on, placing_ends, placed_is_draft, batches_are_put)
