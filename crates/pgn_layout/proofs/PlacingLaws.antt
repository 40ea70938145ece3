-- A writer that goes from batch to batch.
use Rattle.std.proofs.Common.{◌≡◌, ℕ, zero, suc, ◌+◌, ◌<◌, ◌≤◌, true, false, cond, List, [], ◌∷◌, ◌++◌, length, take, drop, Option, sym, ap, ◌∙◌, refl, subst, arith, append_assoc, inl, inr}
use Rattle.std.specs.Prelude.{All, IsSomeAnd, slice_get}
use Rattle.std.proofs.Math.Seq.{take-add}
use Rattle.std.proofs.lemmas.List.{append-nil, length-append, length-drop, drop-drop, drop_all}
use Rattle.std.proofs.lemmas.List.Elements.{All-head, All-drop}
use Rattle.std.proofs.lemmas.Bool.Decides.{nat_tests}
use Rattle.std.proofs.lemmas.Grind.{fold-append}
use Rattle.pgn_base.specs.declared.format.Format.{Format}
use Rattle.pgn_base.specs.declared.note.Note.{Note}
use Rattle.pgn_base.specs.Notes.{IsNote}
use Rattle.pgn_journal.specs.declared.tx.Tx.{Tx}
use Rattle.pgn_journal.specs.declared.tx.Fate.TheVariants.{Committed, Aborted}
use Rattle.pgn_journal.specs.Journal.{next_xid}
use Rattle.pgn_journal.specs.Bytes.{entry_length}
use Rattle.pgn_journal.specs.Packing.{Sender, sender_of, next_page, is_page_start, fits, filler_cells, notes_cells, image, put, put_all, HasRoom}
use Rattle.pgn_journal.specs.Pieces.{draft}
use Rattle.pgn_journal.proofs.PackingLemmas.{room_next, room_put_all, length-filler_cells, packed_notes, pages_hold, notes_in_turn, fits_next}
use Rattle.pgn_journal.proofs.DraftLaws.{one_more_image, draft_at_page_start}
use Rattle.pgn_layout.specs.declared.batch.Batch.{Batch}
use Rattle.pgn_layout.specs.Batches.{FirstIsTooLong, IsPlanned, Whole, Filled, padded_to, batch_cells, IsPlaced, AfterNotes, AfterFiller, StandAfterNotes, StandAfterFiller}
use Rattle.pgn_layout.specs.Laws.{PlacingBegins, PlacingStands, PlacingGoesOn, HasImage, PlacedIsDraft, PlacedIsCutShort}
use Rattle.pgn_layout.proofs.RunLaws.{notes_move}
use Rattle.pgn_layout.proofs.BatchLaws.{whole_padded, filled_padded, same_page}

-- with none placed the cells are those from before
pub placing_begins : PlacingBegins
unfolding notes_cells
placing_begins format sender before notes = AfterNotes (record { within = omega arith; ends = refl; cells_are = sym (append-nil before) })

-- the first few and some of the rest
put_more : (format : Format) (at : ℕ) (notes : List Note) (count more : ℕ)
    → put_all format (put_all format at (take count notes)) (take more (drop count notes)) ≡ put_all format at (take (count + more) notes)
put_more format at notes count more =
    sym (fold-append (put format) at (take count notes) (take more (drop count notes))) ∙ ap (put_all format at) (sym (take-add count more notes))

cells_more : (format : Format) (sender : Sender) (at : ℕ) (notes : List Note) (count more : ℕ) → HasRoom format at
    → notes_cells format sender at (take count notes) ++ notes_cells format sender (put_all format at (take count notes)) (take more (drop count notes))
    ≡ notes_cells format sender at (take (count + more) notes)
cells_more format sender at notes count more room =
    let first = take count notes in
    let second = take more (drop count notes) in
    ap (λ n. notes_cells format sender at first ++ notes_cells format sender n second) (sym (packed_notes format sender at first room))
    ∙ sym (notes_in_turn format sender at first second)
    ∙ ap (notes_cells format sender at) (sym (take-add count more notes))

-- some of notifications of which the first does not fit lie behind a filler
pub record Moves (format : Format) (sender : Sender) (at : ℕ) (notes : List Note) : Type 0 where
  pub cells : notes_cells format sender at notes ≡ filler_cells format sender at ++ notes_cells format sender (next_page at) notes
  pub ends : put_all format at notes ≡ put_all format (next_page at) notes

moves : (format : Format) (sender : Sender) (at : ℕ) (notes : List Note) (count : ℕ) → HasRoom format at → All IsNote notes → FirstIsTooLong format at notes → 0 < count
    → Moves format sender at (take count notes)
moves format sender at [] count room valid past some = absurd past
moves format sender at (note ∷ notes) zero room valid past some = absurd (omega (arith, some))
moves format sender at (note ∷ notes) (suc count) room valid past some =
    let both = notes_move format sender at note (take count notes) room (All-head IsNote note notes valid) past in
    record { cells = both.0; ends = both.1 }

-- where a page begins no notification is too long
none_too_long : (format : Format) (at : ℕ) (notes : List Note) → All IsNote notes → FirstIsTooLong format (next_page at) notes → ⊥
none_too_long format at [] valid past = past
none_too_long format at (note ∷ notes) valid past = let here = fits_next format at note (All-head IsNote note notes valid) in cc

some_left : (format : Format) (at : ℕ) (notes : List Note) → FirstIsTooLong format at notes → 0 < length notes
some_left format at [] past = absurd past
some_left format at (note ∷ notes) past = omega arith

-- behind a filler a batch writes a notification
writes_some : (format : Format) (at next : ℕ) (notes : List Note) (batch : Batch) → next ≡ next_page at → All IsNote notes → FirstIsTooLong format at notes
    → IsPlanned format next notes batch → (batch.fits ≡ 0) → ⊥
writes_some format at next notes batch page valid past (Whole whole) none =
    let ends : batch.next ≡ next = whole.ends ∙ ap (λ n. put_all format next (take n notes)) none in
    elim whole.stops as (λ _. ⊥) [
      | inl all ↦ omega (arith, all, none, some_left format at notes past)
      | inr over ↦ omega (arith, over, ends)
    ]
writes_some format at next notes batch page valid past (Filled filled) none =
    let here : FirstIsTooLong format next notes = subst (λ (n : ℕ). FirstIsTooLong format (put_all format next (take n notes)) (drop n notes)) none filled.too_long in
    none_too_long format at notes valid (subst (λ (n : ℕ). FirstIsTooLong format n notes) page here)

-- where a writer stands, and what it has written, with some more notifications
pub record Reaches (format : Format) (sender : Sender) (before : List (Option ℕ)) (notes : List Note) (count more at : ℕ) (cells : List (Option ℕ)) : Type 0 where
  pub ends : put_all format at (take more (drop count notes)) ≡ put_all format (length before) (take (count + more) notes)
  pub are : cells ++ notes_cells format sender at (take more (drop count notes)) ≡ before ++ notes_cells format sender (length before) (take (count + more) notes)

reaches_even : (format : Format) (sender : Sender) (before : List (Option ℕ)) (notes : List Note) (count more at : ℕ) (cells : List (Option ℕ)) → HasRoom format (length before)
    → StandAfterNotes format sender before notes count at cells → Reaches format sender before notes count more at cells
reaches_even format sender before notes count more at cells room stands =
    let from = length before in
    let first = notes_cells format sender from (take count notes) in
    let second = take more (drop count notes) in
    record {
      ends = ap (λ n. put_all format n second) stands.ends ∙ put_more format from notes count more;
      are = ap (λ front. front ++ notes_cells format sender at second) stands.cells_are
          ∙ append_assoc before first (notes_cells format sender at second)
          ∙ ap (λ n. before ++ (first ++ notes_cells format sender n second)) stands.ends
          ∙ ap (λ more. before ++ more) (cells_more format sender from notes count more room);
    }

reaches_moved : (format : Format) (sender : Sender) (before : List (Option ℕ)) (notes : List Note) (count more at : ℕ) (cells : List (Option ℕ)) → HasRoom format (length before)
    → All IsNote notes → StandAfterFiller format sender before notes count at cells → 0 < more → Reaches format sender before notes count more at cells
reaches_moved format sender before notes count more at cells room valid stands some =
    let from = length before in
    let first = notes_cells format sender from (take count notes) in
    let end = put_all format from (take count notes) in
    let fill = filler_cells format sender end in
    let second = take more (drop count notes) in
    let there : HasRoom format end = room_put_all format from (take count notes) room in
    let moved = moves format sender end (drop count notes) more there (All-drop IsNote count notes valid) stands.too_long some in
    let after = notes_cells format sender (next_page end) second in
    record {
      ends = ap (λ n. put_all format n second) stands.ends ∙ sym moved.ends ∙ put_more format from notes count more;
      are = ap (λ front. front ++ notes_cells format sender at second) stands.cells_are
          ∙ ap (λ n. ((before ++ first) ++ fill) ++ notes_cells format sender n second) stands.ends
          ∙ append_assoc (before ++ first) fill after
          ∙ ap (λ rest. (before ++ first) ++ rest) (sym moved.cells)
          ∙ append_assoc before first (notes_cells format sender end second)
          ∙ ap (λ rest. before ++ rest) (cells_more format sender from notes count more room);
    }

stands_end : (format : Format) (sender : Sender) (before : List (Option ℕ)) (notes : List Note) (count at : ℕ) (cells : List (Option ℕ)) → HasRoom format (length before)
    → IsPlaced format sender before notes count at cells → at ≡ length cells
stands_end format sender before notes count at cells room (AfterNotes stands) =
    let first = notes_cells format sender (length before) (take count notes) in
    let size : length cells ≡ length before + length first = ap length stands.cells_are ∙ length-append before first in
    omega (arith, size, packed_notes format sender (length before) (take count notes) room, stands.ends)
stands_end format sender before notes count at cells room (AfterFiller stands) =
    let first = notes_cells format sender (length before) (take count notes) in
    let end = put_all format (length before) (take count notes) in
    let fill = filler_cells format sender end in
    let size : length cells ≡ (length before + length first) + length fill = ap length stands.cells_are ∙ length-append (before ++ first) fill ∙ ap (λ n. n + length fill) (length-append before first) in
    let there : HasRoom format end = room_put_all format (length before) (take count notes) room in
    omega (arith, size, packed_notes format sender (length before) (take count notes) room, length-filler_cells format sender end there, stands.ends)

stands_room : (format : Format) (sender : Sender) (before : List (Option ℕ)) (notes : List Note) (count at : ℕ) (cells : List (Option ℕ)) → HasRoom format (length before)
    → IsPlaced format sender before notes count at cells → HasRoom format at
stands_room format sender before notes count at cells room (AfterNotes stands) =
    subst (λ (n : ℕ). HasRoom format n) (sym stands.ends) (room_put_all format (length before) (take count notes) room)
stands_room format sender before notes count at cells room (AfterFiller stands) =
    subst (λ (n : ℕ). HasRoom format n) (sym stands.ends) (room_next format (put_all format (length before) (take count notes)))

-- a writer's place is the end of its cells, and leaves room for an entry
pub placing_stands : PlacingStands
placing_stands = record { end = stands_end; room = stands_room }

some_more : (notes : List Note) (count more : ℕ) → count ≤ length notes → more ≤ length (drop count notes) → count + more ≤ length notes
some_more notes count more h k = omega (arith, length-drop count notes)

-- from where a writer stands, a batch takes it further
takes_further : (format : Format) (sender : Sender) (before : List (Option ℕ)) (notes : List Note) (count at : ℕ) (cells : List (Option ℕ)) (batch : Batch)
    → at ≡ length cells → HasRoom format at → count ≤ length notes → Reaches format sender before notes count batch.fits at cells
    → IsPlanned format at (drop count notes) batch
    → IsPlaced format sender before notes (count + batch.fits) batch.next (padded_to batch.next (cells ++ batch_cells format sender (drop count notes) batch))
takes_further format sender before notes count at cells batch stands room some reaches (Whole whole) =
    AfterNotes (record {
      within = some_more notes count batch.fits some whole.count;
      ends = whole.ends ∙ reaches.ends;
      cells_are = whole_padded format sender at cells (drop count notes) batch stands room whole ∙ reaches.are;
    })
takes_further format sender before notes count at cells batch stands room some reaches (Filled filled) =
    let rest = drop count notes in
    let xs = take batch.fits rest in
    let end = put_all format at xs in
    let all = put_all format (length before) (take (count + batch.fits) notes) in
    let left : FirstIsTooLong format end (drop (count + batch.fits) notes) = subst (λ (ns : List Note). FirstIsTooLong format end ns) (drop-drop batch.fits count notes) filled.too_long in
    AfterFiller (record {
      within = some_more notes count batch.fits some filled.count;
      too_long = subst (λ (n : ℕ). FirstIsTooLong format n (drop (count + batch.fits) notes)) reaches.ends left;
      ends = filled.ends ∙ sym (same_page format at rest batch filled) ∙ ap next_page reaches.ends;
      cells_are = filled_padded format sender at cells rest batch stands room filled
          ∙ sym (append_assoc cells (notes_cells format sender at xs) (filler_cells format sender end))
          ∙ ap (λ front. front ++ filler_cells format sender end) reaches.are
          ∙ ap (λ n. (before ++ notes_cells format sender (length before) (take (count + batch.fits) notes)) ++ filler_cells format sender n) reaches.ends;
    })

at_least_one : (n : ℕ) → (n ≡ 0 → ⊥) → 0 < n
at_least_one zero h = absurd (h refl)
at_least_one (suc n) h = omega arith

goes_further : (format : Format) (sender : Sender) (before : List (Option ℕ)) (notes : List Note) (count at : ℕ) (cells : List (Option ℕ)) (batch : Batch)
    → at ≡ length cells → HasRoom format at → HasRoom format (length before) → All IsNote notes → IsPlaced format sender before notes count at cells
    → IsPlanned format at (drop count notes) batch
    → IsPlaced format sender before notes (count + batch.fits) batch.next (padded_to batch.next (cells ++ batch_cells format sender (drop count notes) batch))
goes_further format sender before notes count at cells batch stands room first valid (AfterNotes placed) planned =
    takes_further format sender before notes count at cells batch stands room placed.within (reaches_even format sender before notes count batch.fits at cells first placed) planned
goes_further format sender before notes count at cells batch stands room first valid (AfterFiller placed) planned =
    let end = put_all format (length before) (take count notes) in
    let some : 0 < batch.fits = at_least_one batch.fits (writes_some format end at (drop count notes) batch placed.ends (All-drop IsNote count notes valid) placed.too_long planned) in
    takes_further format sender before notes count at cells batch stands room placed.within (reaches_moved format sender before notes count batch.fits at cells first valid placed some) planned

-- behind the cells of a planned batch more notifications are placed
pub placing_goes_on : PlacingGoesOn
placing_goes_on format sender before notes count at cells batch room valid placed planned =
    goes_further format sender before notes count at cells batch (stands_end format sender before notes count at cells room placed)
    (stands_room format sender before notes count at cells room placed) room valid placed planned

-- nothing is left of notifications that are all placed
pub none_left : (format : Format) (at : ℕ) (notes : List Note) → FirstIsTooLong format at (drop (length notes) notes) → ⊥
none_left format at notes past = subst (λ (ns : List Note). FirstIsTooLong format at ns) (drop_all (length notes) notes (omega arith)) past

-- where a filler is needed no page begins
no_start : (format : Format) (at : ℕ) (notes : List Note) → All IsNote notes → FirstIsTooLong format at notes → is_page_start at ≡ false
no_start format at [] valid past = absurd past
no_start format at (note ∷ notes) valid past = let small = pages_hold.next format at note (All-head IsNote note notes valid) in grind (arith, nat_tests)

-- a draft that was stopped behind a filler
filled_draft : (format : Format) (seen : List Tx) (session db : ℕ) (notes : List Note) (count at : ℕ) (cells : List (Option ℕ)) → All IsNote notes
    → StandAfterFiller format (sender_of (next_xid seen) (draft session db notes count Committed)) (image format seen) notes count at cells
    → image format (seen ++ draft session db notes count Aborted ∷ []) ≡ cells
filled_draft format seen session db notes count at cells valid stands =
    let tx = draft session db notes count Aborted in
    let sender = sender_of (next_xid seen) tx in
    let from = length (image format seen) in
    let end = put_all format from (take count notes) in
    let before = image format seen ++ notes_cells format sender from (take count notes) in
    let inside : is_page_start end ≡ false = no_start format end (drop count notes) (All-drop IsNote count notes valid) stands.too_long in
    one_more_image.aborted format seen tx refl ∙ ap (λ b. before ++ cond b [] (filler_cells format sender end)) inside ∙ sym stands.cells_are

some_draft : (format : Format) (seen : List Tx) (session db : ℕ) (notes : List Note) (count at : ℕ) (cells : List (Option ℕ)) → All IsNote notes
    → IsPlaced format (sender_of (next_xid seen) (draft session db notes count Committed)) (image format seen) notes count at cells
    → HasImage format seen session db notes count cells
some_draft format seen session db notes count at cells valid (AfterNotes stands) =
    record { fate = Committed; image = one_more_image.committed format seen (draft session db notes count Committed) refl ∙ sym stands.cells_are }
some_draft format seen session db notes count at cells valid (AfterFiller stands) =
    record { fate = Aborted; image = filled_draft format seen session db notes count at cells valid stands }

aborted_draft : (format : Format) (seen : List Tx) (session db : ℕ) (notes : List Note) (count at : ℕ) (cells : List (Option ℕ)) → All IsNote notes
    → IsPlaced format (sender_of (next_xid seen) (draft session db notes count Committed)) (image format seen) notes count at cells → is_page_start at ≡ true
    → image format (seen ++ draft session db notes count Aborted ∷ []) ≡ cells
aborted_draft format seen session db notes count at cells valid (AfterNotes stands) starts =
    let there : is_page_start (put_all format (length (image format seen)) (take count notes)) ≡ true = ap is_page_start (sym stands.ends) ∙ starts in
    draft_at_page_start format seen session db notes count there ∙ one_more_image.committed format seen (draft session db notes count Committed) refl ∙ sym stands.cells_are
aborted_draft format seen session db notes count at cells valid (AfterFiller stands) starts = filled_draft format seen session db notes count at cells valid stands

committed_draft : (format : Format) (seen : List Tx) (session db : ℕ) (notes : List Note) (at : ℕ) (cells : List (Option ℕ))
    → IsPlaced format (sender_of (next_xid seen) (draft session db notes (length notes) Committed)) (image format seen) notes (length notes) at cells
    → image format (seen ++ draft session db notes (length notes) Committed ∷ []) ≡ cells
committed_draft format seen session db notes at cells (AfterNotes stands) =
    one_more_image.committed format seen (draft session db notes (length notes) Committed) refl ∙ sym stands.cells_are
committed_draft format seen session db notes at cells (AfterFiller stands) = absurd (none_left format _ notes stands.too_long)

-- the cells of a writer are the image of the journal with its transaction, as far as it is placed
pub placed_is_draft : PlacedIsDraft
placed_is_draft = record { some = some_draft; aborted = aborted_draft; committed = committed_draft }

first_left : (format : Format) (end : ℕ) (notes : List Note) (count : ℕ) → FirstIsTooLong format end (drop count notes)
    → IsSomeAnd (slice_get notes count) (λ note. fits end (entry_length format note) ≡ false)
first_left format end [] count past = absurd (subst (λ (ns : List Note). FirstIsTooLong format end ns) (drop_all count [] (omega arith)) past)
first_left format end (note ∷ notes) zero past = past
first_left format end (note ∷ notes) (suc count) past = first_left format end notes count past

-- a writer that stops at a page's beginning with some left has cut its transaction short
pub placed_is_cut_short : PlacedIsCutShort
placed_is_cut_short format sender before session db notes count at cells (AfterNotes stands) starts left =
    record { aborted = refl; some = refl; not_all = left; stopped = inl (ap is_page_start (sym stands.ends) ∙ starts) }
placed_is_cut_short format sender before session db notes count at cells (AfterFiller stands) starts left =
    record { aborted = refl; some = refl; not_all = left; stopped = inr (first_left format (put_all format (length before) (take count notes)) notes count stands.too_long) }
