-- A planned batch: its cells, its end and its filler.
use Rattle.std.proofs.Common.{◌≡◌, ℕ, ◌+◌, ◌-◌, ◌<◌, ◌≤◌, false, cond, ◌==◌, List, [], ◌++◌, length, take, Option, sym, ap, ◌∙◌, subst, arith, append_assoc, inl, inr}
use Rattle.std.proofs.lemmas.List.{append-nil, length-append}
use Rattle.std.proofs.lemmas.Bool.Decides.{nat_tests}
use Rattle.pgn_base.specs.declared.format.Format.{Format}
use Rattle.pgn_base.specs.declared.note.Note.{Note}
use Rattle.pgn_journal.specs.Bytes.{filler, IsEntryLength}
use Rattle.pgn_journal.specs.Packing.{Sender, next_page, bytes_left, filled_cells, filler_cells, notes_cells, put_all, HasRoom}
use Rattle.pgn_journal.proofs.PackingLemmas.{least_within, room_next, room_put_all, length-filler_cells, pages_hold, put_all_rises}
use Rattle.pgn_layout.specs.declared.batch.Batch.{Batch}
use Rattle.pgn_layout.specs.Batches.{IsWhole, IsFilled, IsPlanned, Whole, Filled, empty_cells, padded_to, entries_of, batch_cells}
use Rattle.pgn_layout.specs.Laws.{RunsAreCells, BatchesStay, FillersTakeRests}
use Rattle.pgn_layout.proofs.RunLaws.{runs_cells, runs_within, runs_tight, run_ends, runs-take}

-- the cells of a run are those of its entries, with the rest of the page where it is filled
pub runs_are_cells : RunsAreCells
runs_are_cells = record { cells = runs_cells; within = runs_within; tight = runs_tight; ends = run_ends; firsts = runs-take }

-- what is padded up to a place behind cells
pub padded_behind : (at to : ℕ) (cells more : List (Option ℕ)) → at ≡ length cells → padded_to to (cells ++ more) ≡ cells ++ (more ++ empty_cells (to - (at + length more)))
padded_behind at to cells more h =
    let size : length (cells ++ more) ≡ at + length more = simp length-append (omega (arith, h)) in
    append_assoc cells more (empty_cells (to - length (cells ++ more))) ∙ ap (λ n. cells ++ (more ++ empty_cells (to - n))) size

-- a batch without a filler is its entries
whole_cells : (format : Format) (sender : Sender) (at : ℕ) (notes : List Note) (batch : Batch) → IsWhole format at notes batch
    → batch_cells format sender notes batch ≡ entries_of format sender (take batch.fits notes)
whole_cells format sender at notes batch whole =
    let entries = entries_of format sender (take batch.fits notes) in
    ap (λ n. entries ++ cond (n == 0) [] (filled_cells (filler format n sender.xid sender.pid))) whole.no_filler ∙ append-nil entries

-- where the entries of a batch with a filler end, an entry may begin
pub filled_room : (format : Format) (at : ℕ) (notes : List Note) (batch : Batch) → HasRoom format at → HasRoom format (put_all format at (take batch.fits notes))
filled_room format at notes batch room = room_put_all format at (take batch.fits notes) room

-- it has the cells of its entries and of its filler
filled_batch : (format : Format) (sender : Sender) (at : ℕ) (notes : List Note) (batch : Batch) → HasRoom format at → IsFilled format at notes batch
    → batch_cells format sender notes batch ≡ entries_of format sender (take batch.fits notes) ++ filler_cells format sender (put_all format at (take batch.fits notes))
unfolding filler_cells
filled_batch format sender at notes batch room filled =
    let entries = entries_of format sender (take batch.fits notes) in
    let end = put_all format at (take batch.fits notes) in
    let some : batch.filler == 0 ≡ false = let there = filled_room format at notes batch room in let rest = filled.rest in let least = least_within format in grind (arith, nat_tests) in
    ap (λ b. entries ++ cond b [] (filled_cells (filler format batch.filler sender.xid sender.pid))) some
    ∙ ap (λ n. entries ++ filled_cells (filler format n sender.xid sender.pid)) filled.rest

-- the page of its entries' end is its page
pub same_page : (format : Format) (at : ℕ) (notes : List Note) (batch : Batch) → IsFilled format at notes batch → next_page (put_all format at (take batch.fits notes)) ≡ next_page at
same_page format at notes batch filled = let up = put_all_rises format at (take batch.fits notes) in let left = filled.left in omega arith

-- its entries lie one after another, and its filler behind them
pub filled_tight : (format : Format) (sender : Sender) (at : ℕ) (notes : List Note) (batch : Batch) → IsFilled format at notes batch
    → put_all format at (take batch.fits notes) ≡ at + length (entries_of format sender (take batch.fits notes))
filled_tight format sender at notes batch filled = runs_tight format sender at (take batch.fits notes) filled.entries filled.left

-- it ends with its page
filled_ends : (format : Format) (sender : Sender) (at : ℕ) (notes : List Note) (batch : Batch) → HasRoom format at → IsFilled format at notes batch
    → at + length (entries_of format sender (take batch.fits notes) ++ filler_cells format sender (put_all format at (take batch.fits notes))) ≡ batch.next
filled_ends format sender at notes batch room filled =
    let entries = entries_of format sender (take batch.fits notes) in
    let end = put_all format at (take batch.fits notes) in
    let tight = filled_tight format sender at notes batch filled in
    let fill = length-filler_cells format sender end (filled_room format at notes batch room) in
    let page = same_page format at notes batch filled in
    let ends = filled.ends in
    simp length-append (omega (arith, tight, fill, page, ends))

-- a batch of entries alone, padded up to its end, is its notifications
pub whole_padded : (format : Format) (sender : Sender) (at : ℕ) (cells : List (Option ℕ)) (notes : List Note) (batch : Batch) → at ≡ length cells → HasRoom format at
    → IsWhole format at notes batch
    → padded_to batch.next (cells ++ batch_cells format sender notes batch) ≡ cells ++ notes_cells format sender at (take batch.fits notes)
whole_padded format sender at cells notes batch stands room whole =
    let entries = entries_of format sender (take batch.fits notes) in
    ap (λ more. padded_to batch.next (cells ++ more)) (whole_cells format sender at notes batch whole)
    ∙ padded_behind at batch.next cells entries stands
    ∙ ap (λ n. cells ++ (entries ++ empty_cells (n - (at + length entries)))) whole.ends
    ∙ ap (λ more. cells ++ more) (sym (runs_cells format sender at (take batch.fits notes) room whole.entries))

-- a batch with a filler is its notifications and the filler
pub filled_padded : (format : Format) (sender : Sender) (at : ℕ) (cells : List (Option ℕ)) (notes : List Note) (batch : Batch) → at ≡ length cells → HasRoom format at
    → IsFilled format at notes batch
    → padded_to batch.next (cells ++ batch_cells format sender notes batch)
    ≡ cells ++ (notes_cells format sender at (take batch.fits notes) ++ filler_cells format sender (put_all format at (take batch.fits notes)))
filled_padded format sender at cells notes batch stands room filled =
    let entries = entries_of format sender (take batch.fits notes) in
    let end = put_all format at (take batch.fits notes) in
    let fill = filler_cells format sender end in
    let tight : end ≡ at + length entries = filled_tight format sender at notes batch filled in
    let none : end - (at + length entries) ≡ 0 = omega (arith, tight) in
    let ends : at + length (entries ++ fill) ≡ batch.next = filled_ends format sender at notes batch room filled in
    let no_more : batch.next - (at + length (entries ++ fill)) ≡ 0 = omega (arith, ends) in
    let alone : notes_cells format sender at (take batch.fits notes) ≡ entries = runs_cells format sender at (take batch.fits notes) room filled.entries ∙ ap (λ n. entries ++ empty_cells n) none ∙ append-nil entries in
    ap (λ more. padded_to batch.next (cells ++ more)) (filled_batch format sender at notes batch room filled)
    ∙ padded_behind at batch.next cells (entries ++ fill) stands
    ∙ ap (λ n. cells ++ ((entries ++ fill) ++ empty_cells n)) no_more
    ∙ ap (λ more. cells ++ more) (append-nil (entries ++ fill))
    ∙ ap (λ more. cells ++ (more ++ fill)) (sym alone)

cells_stay : (format : Format) (sender : Sender) (at : ℕ) (notes : List Note) (batch : Batch) → HasRoom format at → IsPlanned format at notes batch
    → at + length (batch_cells format sender notes batch) ≤ batch.next
cells_stay format sender at notes batch room (Whole whole) =
    omega (arith, ap length (whole_cells format sender at notes batch whole), run_ends format sender at (take batch.fits notes) room whole.entries, whole.ends)
cells_stay format sender at notes batch room (Filled filled) =
    omega (arith, ap length (filled_batch format sender at notes batch room filled), filled_ends format sender at notes batch room filled)

page_stays : (format : Format) (at : ℕ) (notes : List Note) (batch : Batch) → IsPlanned format at notes batch → batch.next ≤ next_page at
page_stays format at notes batch (Whole whole) = omega (arith, runs_within format at (take batch.fits notes) whole.entries, whole.ends)
page_stays format at notes batch (Filled filled) = omega (arith, filled.ends)

room_stays : (format : Format) (at : ℕ) (notes : List Note) (batch : Batch) → HasRoom format at → IsPlanned format at notes batch → HasRoom format batch.next
room_stays format at notes batch room (Whole whole) = subst (λ (n : ℕ). HasRoom format n) (sym whole.ends) (room_put_all format at (take batch.fits notes) room)
room_stays format at notes batch room (Filled filled) = subst (λ (n : ℕ). HasRoom format n) (sym filled.ends) (room_next format at)

leaves_page : (format : Format) (at : ℕ) (notes : List Note) (batch : Batch) → IsPlanned format at notes batch → batch.fits < length notes → batch.next ≡ next_page at
leaves_page format at notes batch (Whole whole) left = elim whole.stops [ inl all ↦ absurd (omega (arith, all, left)) | inr page ↦ page ]
leaves_page format at notes batch (Filled filled) left = filled.ends

-- a batch ends on its page, at its end where a notification is left
pub batches_stay : BatchesStay
batches_stay = record { cells = cells_stay; page = page_stays; room = room_stays; leaves = leaves_page }

filler_stands : (format : Format) (sender : Sender) (at : ℕ) (notes : List Note) (batch : Batch) → IsPlanned format at notes batch → 0 < batch.filler
    → batch.filler ≡ bytes_left (at + length (entries_of format sender (take batch.fits notes)))
filler_stands format sender at notes batch (Whole whole) some = absurd (omega (arith, whole.no_filler, some))
filler_stands format sender at notes batch (Filled filled) some = filled.rest ∙ ap bytes_left (filled_tight format sender at notes batch filled)

filler_long : (format : Format) (at : ℕ) (notes : List Note) (batch : Batch) → HasRoom format at → IsPlanned format at notes batch → 0 < batch.filler
    → IsEntryLength format batch.filler
filler_long format at notes batch room (Whole whole) some = absurd (omega (arith, whole.no_filler, some))
filler_long format at notes batch room (Filled filled) some =
    subst (λ (n : ℕ). IsEntryLength format n) (sym filled.rest) (pages_hold.rest format (put_all format at (take batch.fits notes)) (filled_room format at notes batch room))

-- a filler begins behind the batch's entries and ends with the page
pub fillers_take_rests : FillersTakeRests
fillers_take_rests = record { stands = filler_stands; long = filler_long }
