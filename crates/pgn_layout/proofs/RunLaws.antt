-- Entries that lie on one page, one after another.
use Rattle.std.proofs.Common.{◌≢◌, zero, suc, take, ◌≡◌, ℕ, ◌+◌, ◌-◌, ◌/◌, ◌<◌, ◌≤◌, true, false, cond, List, [], ◌∷◌, ◌++◌, length, Option, None, sym, ap, ◌∙◌, refl, arith, append_assoc}
use Rattle.std.proofs.lemmas.List.{append-nil, length-append, length-replicate}
use Rattle.std.proofs.lemmas.Grind.{common_steps}
use Rattle.pgn_base.specs.declared.format.Format.{Format}
use Rattle.pgn_base.specs.declared.note.Note.{Note}
use Rattle.pgn_base.specs.Notes.{IsNote}
use Rattle.pgn_journal.specs.Bytes.{entry_length, spelled}
use Rattle.pgn_journal.specs.Packing.{Sender, cells_in, fits, has_room, next_page, cells_left, page_rest, entry_cells, filler_cells, note_cells, notes_cells, after_rest, after_bytes, put_bytes, put, put_all, HasRoom}
use Rattle.pgn_journal.proofs.BytesLemmas.{length-spelled}
use Rattle.pgn_journal.proofs.PackingLemmas.{length-filled_cells, least_within, room_next, room_put, packed_note, packed_notes, note_moves, put_rises, put_all_rises}
use Rattle.pgn_layout.specs.Batches.{FitsBefore, Runs, empty_cells, entry_of, entries_of}

-- how many cells an entry has
length-entry_of : (format : Format) (sender : Sender) (note : Note) → length (entry_of format sender note) ≡ entry_length format note / 4
length-entry_of format sender note =
    length-filled_cells (spelled format note sender.db sender.xid sender.pid) ∙ ap (λ n. n / 4) (length-spelled format note sender.db sender.xid sender.pid)

-- a page rest is the empty cells up to the place after it
rest_is_empty : (format : Format) (at : ℕ) → page_rest format at ≡ empty_cells (after_rest format at - at)
unfolding page_rest after_rest
rest_is_empty format at = elim (has_room format at) as (λ b. cond b [] (empty_cells (cells_left at)) ≡ empty_cells (cond b at (next_page at) - at)) [
  | true ↦ let none : at - at ≡ 0 = omega arith in ap empty_cells (sym none)
  | false ↦ refl
]

-- a notification that fits is its entry, and empty cells up to the place after it
fitting_cells : (format : Format) (sender : Sender) (at : ℕ) (note : Note) → fits at (entry_length format note) ≡ true
    → note_cells format sender at note ≡ entry_of format sender note ++ empty_cells (put format at note - (at + length (entry_of format sender note)))
unfolding note_cells entry_cells put put_bytes after_bytes
fitting_cells format sender at note fit =
    let entry = entry_of format sender note in
    let end : at + length entry ≡ at + cells_in (entry_length format note) = ap (λ n. at + n) (length-entry_of format sender note) in
    let rest : entry ++ page_rest format (at + length entry) ≡ entry ++ empty_cells (after_rest format (at + cells_in (entry_length format note)) - (at + length entry))
    = ap (λ cells. entry ++ cells) (rest_is_empty format (at + length entry) ∙ ap (λ n. empty_cells (after_rest format n - (at + length entry))) end) in
    rw fit rest

-- where the page goes on after it, it is its entry alone
inner_ends : (format : Format) (sender : Sender) (at : ℕ) (note : Note) → fits at (entry_length format note) ≡ true → put format at note < next_page at
    → put format at note ≡ at + length (entry_of format sender note)
unfolding put put_bytes after_bytes after_rest
inner_ends format sender at note fit on =
    let size = length-entry_of format sender note in
    let least = least_within format in
    grind (arith, common_steps)

-- it ends on the page or where the next one begins
fitting_ends : (format : Format) (at : ℕ) (note : Note) → fits at (entry_length format note) ≡ true → put format at note ≤ next_page at
unfolding put put_bytes after_bytes after_rest
fitting_ends format at note fit = grind (arith, common_steps)

run_cons : (format : Format) (sender : Sender) (at : ℕ) (note : Note) (notes : List Note) → HasRoom format at → FitsBefore format at note notes
    → notes_cells format sender (put format at note) notes
    ≡ entries_of format sender notes ++ empty_cells (put_all format (put format at note) notes - (put format at note + length (entries_of format sender notes)))
    → notes_cells format sender at (note ∷ notes)
    ≡ entries_of format sender (note ∷ notes) ++ empty_cells (put_all format at (note ∷ notes) - (at + length (entries_of format sender (note ∷ notes))))
unfolding notes_cells
run_cons format sender at note [] room first rest =
    let entry = entry_of format sender note in
    append-nil (note_cells format sender at note) ∙ fitting_cells format sender at note first.here
    ∙ ap (λ cells. cells ++ empty_cells (put format at note - (at + length cells))) (sym (append-nil entry))
run_cons format sender at note (second ∷ notes) room first rest =
    let entry = entry_of format sender note in
    let more = entries_of format sender (second ∷ notes) in
    let next = put format at note in
    let end = put_all format next (second ∷ notes) in
    let ends : next ≡ at + length entry = inner_ends format sender at note first.here (first.goes_on (λ e. cc)) in
    let none : next - (at + length entry) ≡ 0 = omega arith in
    let alone : note_cells format sender at note ≡ entry = fitting_cells format sender at note first.here ∙ ap (λ n. entry ++ empty_cells n) none ∙ append-nil entry in
    let there : at + length (note_cells format sender at note) ≡ next = packed_note format sender at note room in
    let count : next + length more ≡ at + length (entry ++ more) = simp length-append (omega arith) in
    ap (λ cells. cells ++ notes_cells format sender (at + length (note_cells format sender at note)) (second ∷ notes)) alone
    ∙ ap (λ n. entry ++ notes_cells format sender n (second ∷ notes)) there
    ∙ ap (λ cells. entry ++ cells) rest
    ∙ sym (append_assoc entry more (empty_cells (end - (next + length more))))
    ∙ ap (λ n. (entry ++ more) ++ empty_cells (end - n)) count

-- notifications that run on a page are their entries, and then empty cells up to the place after them
pub runs_cells : (format : Format) (sender : Sender) (at : ℕ) (notes : List Note) → HasRoom format at → Runs format at notes
    → notes_cells format sender at notes ≡ entries_of format sender notes ++ empty_cells (put_all format at notes - (at + length (entries_of format sender notes)))
unfolding notes_cells
runs_cells format sender at [] room runs = let none : at - (at + 0) ≡ 0 = omega arith in ap empty_cells (sym none)
runs_cells format sender at (note ∷ notes) room runs =
    run_cons format sender at note notes room runs.0 (runs_cells format sender (put format at note) notes (room_put format at note room) runs.1)

run_within_cons : (format : Format) (at : ℕ) (note : Note) (notes : List Note) → FitsBefore format at note notes
    → put_all format (put format at note) notes ≤ next_page (put format at note) → put_all format (put format at note) notes ≤ next_page at
run_within_cons format at note [] first rest = fitting_ends format at note first.here
run_within_cons format at note (second ∷ notes) first rest =
    let low : put format at note < next_page at = first.goes_on (λ e. cc) in
    omega (arith, put_rises format at note)

-- they end on the page or where the next one begins
pub runs_within : (format : Format) (at : ℕ) (notes : List Note) → Runs format at notes → put_all format at notes ≤ next_page at
runs_within format at [] runs = omega arith
runs_within format at (note ∷ notes) runs = run_within_cons format at note notes runs.0 (runs_within format (put format at note) notes runs.1)

-- where the page goes on after them, they are their entries alone
pub runs_tight : (format : Format) (sender : Sender) (at : ℕ) (notes : List Note) → Runs format at notes → put_all format at notes < next_page at
    → put_all format at notes ≡ at + length (entries_of format sender notes)
runs_tight format sender at [] runs on = omega arith
runs_tight format sender at (note ∷ notes) runs on =
    let entry = entry_of format sender note in
    let more = entries_of format sender notes in
    let next = put format at note in
    let up = put_all_rises format next notes in
    let rises = put_rises format at note in
    let ends : next ≡ at + length entry = inner_ends format sender at note runs.0.here (omega arith) in
    let rest : put_all format next notes ≡ next + length more = runs_tight format sender next notes runs.1 (omega arith) in
    let count : next + length more ≡ at + length (entry ++ more) = simp length-append (omega arith) in
    rest ∙ count

-- their entries end no later
pub run_ends : (format : Format) (sender : Sender) (at : ℕ) (notes : List Note) → HasRoom format at → Runs format at notes
    → at + length (entries_of format sender notes) ≤ put_all format at notes
run_ends format sender at notes room runs =
    let entries = entries_of format sender notes in
    let empty = put_all format at notes - (at + length entries) in
    let size : length (notes_cells format sender at notes) ≡ length entries + empty = ap length (runs_cells format sender at notes room runs) ∙ length-append entries (empty_cells empty) ∙ ap (λ n. length entries + n) (length-replicate {A = Option ℕ} empty None) in
    omega (arith, packed_notes format sender at notes room)

-- one more notification that fits where the page goes on
pub runs-push : (format : Format) (at : ℕ) (notes : List Note) (note : Note) → Runs format at notes → put_all format at notes < next_page at
    → fits (put_all format at notes) (entry_length format note) ≡ true → Runs format at (notes ++ note ∷ [])
runs-push format at [] note runs on fit = (record { here = fit; goes_on = λ some. absurd (some refl) }, tt)
runs-push format at (first ∷ notes) note runs on fit =
    let next = put format at first in
    let up = put_all_rises format next notes in
    let rises = put_rises format at first in
    let low : next < next_page at = omega arith in
    (record { here = runs.0.here; goes_on = λ some. low }, runs-push format next notes note runs.1 (omega arith) fit)

not_nothing : (count : ℕ) (notes : List Note) → take count notes ≢ [] → notes ≢ []
not_nothing zero notes some none = some refl
not_nothing (suc count) [] some none = some refl
not_nothing (suc count) (note ∷ notes) some none = cc

-- and the first few of them run
pub runs-take : (format : Format) (at count : ℕ) (notes : List Note) → Runs format at notes → Runs format at (take count notes)
runs-take format at zero notes runs = tt
runs-take format at (suc count) [] runs = tt
runs-take format at (suc count) (note ∷ notes) runs =
    (record { here = runs.0.here; goes_on = λ some. runs.0.goes_on (not_nothing count notes some) }, runs-take format (put format at note) count notes runs.1)

-- notifications of which the first does not fit lie behind a filler on the next page
pub notes_move : (format : Format) (sender : Sender) (at : ℕ) (note : Note) (notes : List Note) → HasRoom format at → IsNote note → fits at (entry_length format note) ≡ false
    → (notes_cells format sender at (note ∷ notes) ≡ filler_cells format sender at ++ notes_cells format sender (next_page at) (note ∷ notes))
    × (put_all format at (note ∷ notes) ≡ put_all format (next_page at) (note ∷ notes))
unfolding notes_cells
notes_move format sender at note notes room valid past =
    let moves = note_moves format sender at note valid past in
    let there = next_page at in
    let filled = filler_cells format sender at in
    let moved = note_cells format sender there note in
    let here : at + length (note_cells format sender at note) ≡ there + length moved = packed_note format sender at note room ∙ moves.ends ∙ sym (packed_note format sender there note (room_next format at)) in (
      ap (λ cells. cells ++ notes_cells format sender (at + length (note_cells format sender at note)) notes) moves.cells
          ∙ ap (λ n. (filled ++ moved) ++ notes_cells format sender n notes) here
          ∙ append_assoc filled moved (notes_cells format sender (there + length moved) notes),
      ap (λ n. put_all format n notes) moves.ends,
    )
