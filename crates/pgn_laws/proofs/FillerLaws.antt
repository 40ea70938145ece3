-- The ends and the fillers of batches are those of notifications that are put one after another.
use Rattle.std.proofs.Common.{◌≡◌, ℕ, false, cond, ◌==◌, List, [], ◌∷◌, ◌++◌, take, drop, sym, ap, ◌∙◌, refl, arith, append_assoc}
use Rattle.std.specs.Prelude.{All}
use Rattle.std.proofs.lemmas.List.{take-append-drop}
use Rattle.std.proofs.lemmas.List.Elements.{All-head, All-drop}
use Rattle.std.proofs.lemmas.Bool.Decides.{nat_tests}
use Rattle.std.proofs.lemmas.Grind.{fold-append}
use Rattle.pgn_base.specs.declared.format.Format.{Format}
use Rattle.pgn_base.specs.declared.note.Note.{Note}
use Rattle.pgn_base.specs.Notes.{IsNote}
use Rattle.pgn_journal.specs.Bytes.{entry_length}
use Rattle.pgn_journal.specs.Packing.{next_page, bytes_left, fits, put, put_all, HasRoom}
use Rattle.pgn_journal.proofs.PackingLemmas.{least_within, fits_next, note_moves}
use Rattle.pgn_layout.specs.declared.batch.Batch.{Batch}
use Rattle.pgn_layout.specs.Batches.{Runs, FirstIsTooLong, IsPlanned, Whole, Filled, AreBatches, batches_end, batch_fillers, fillers_from}
use Rattle.pgn_layout.proofs.BatchLaws.{filled_room, same_page, batches_stay}

-- notifications one list after the other
fillers_from-append : (format : Format) (at : ℕ) (xs ys : List Note) → fillers_from format at (xs ++ ys) ≡ fillers_from format at xs ++ fillers_from format (put_all format at xs) ys
fillers_from-append format at [] ys = refl
fillers_from-append format at (note ∷ xs) ys =
    let first = cond (fits at (entry_length format note)) [] (bytes_left at ∷ []) in
    let next = put format at note in
    ap (λ rest. first ++ rest) (fillers_from-append format next xs ys) ∙ sym (append_assoc first (fillers_from format next xs) (fillers_from format (put_all format next xs) ys))

-- those that run on a page need none
runs_need_none : (format : Format) (at : ℕ) (notes : List Note) → Runs format at notes → fillers_from format at notes ≡ []
runs_need_none format at [] runs = refl
runs_need_none format at (note ∷ notes) runs =
    let next = put format at note in
    ap (λ b. cond b [] (bytes_left at ∷ []) ++ fillers_from format next notes) runs.0.here ∙ runs_need_none format next notes runs.1

-- where the first does not fit, one is needed, and then those that are needed on the next page
pub record NeedsOne (format : Format) (at : ℕ) (notes : List Note) : Type 0 where
  pub fillers : fillers_from format at notes ≡ bytes_left at ∷ fillers_from format (next_page at) notes
  pub ends : put_all format at notes ≡ put_all format (next_page at) notes

needs_one : (format : Format) (at : ℕ) (notes : List Note) → All IsNote notes → FirstIsTooLong format at notes → NeedsOne format at notes
needs_one format at [] valid past = absurd past
needs_one format at (note ∷ notes) valid past =
    let good = All-head IsNote note notes valid in
    let there = next_page at in
    let moves = (note_moves format (record { db = 0; xid = 0; pid = 0 }) at note good past).ends in
    let rest : fillers_from format (put format at note) notes ≡ fillers_from format (put format there note) notes = ap (λ n. fillers_from format n notes) moves in
    record {
      fillers = ap (λ b. cond b [] (bytes_left at ∷ []) ++ fillers_from format (put format at note) notes) past
          ∙ ap (λ (ns : List ℕ). bytes_left at ∷ ns) (rest ∙ ap (λ b. cond b [] (bytes_left there ∷ []) ++ fillers_from format (put format there note) notes) (sym (fits_next format at note good)));
      ends = ap (λ n. put_all format n notes) moves;
    }

-- a batch, and then what is left of the notifications
pub record Leaves (format : Format) (at : ℕ) (notes : List Note) (batch : Batch) : Type 0 where
  pub fillers : fillers_from format at notes ≡ cond (batch.filler == 0) [] (batch.filler ∷ []) ++ fillers_from format batch.next (drop batch.fits notes)
  pub ends : put_all format at notes ≡ put_all format batch.next (drop batch.fits notes)

leaves : (format : Format) (at : ℕ) (notes : List Note) (batch : Batch) → HasRoom format at → All IsNote notes → IsPlanned format at notes batch → Leaves format at notes batch
leaves format at notes batch room valid (Whole whole) =
    let first = take batch.fits notes in
    let rest = drop batch.fits notes in
    let split : notes ≡ first ++ rest = sym (take-append-drop batch.fits notes) in
    let end : put_all format at first ≡ batch.next = sym whole.ends in
    record {
      fillers = ap (fillers_from format at) split ∙ fillers_from-append format at first rest
          ∙ ap (λ none. none ++ fillers_from format (put_all format at first) rest) (runs_need_none format at first whole.entries)
          ∙ ap (λ n. fillers_from format n rest) end
          ∙ ap (λ n. cond (n == 0) [] (n ∷ []) ++ fillers_from format batch.next rest) (sym whole.no_filler);
      ends = ap (put_all format at) split ∙ fold-append (put format) at first rest ∙ ap (λ n. put_all format n rest) end;
    }
leaves format at notes batch room valid (Filled filled) =
    let first = take batch.fits notes in
    let rest = drop batch.fits notes in
    let split : notes ≡ first ++ rest = sym (take-append-drop batch.fits notes) in
    let end = put_all format at first in
    let needs = needs_one format end rest (All-drop IsNote batch.fits notes valid) filled.too_long in
    let next : next_page end ≡ batch.next = same_page format at notes batch filled ∙ sym filled.ends in
    let some : batch.filler == 0 ≡ false = let there = filled_room format at notes batch room in let taken = filled.rest in let least = least_within format in grind (arith, nat_tests) in
    record {
      fillers = ap (fillers_from format at) split ∙ fillers_from-append format at first rest
          ∙ ap (λ none. none ++ fillers_from format end rest) (runs_need_none format at first filled.entries)
          ∙ needs.fillers
          ∙ ap (λ n. bytes_left end ∷ fillers_from format n rest) next
          ∙ ap (λ n. n ∷ fillers_from format batch.next rest) (sym filled.rest)
          ∙ ap (λ b. cond b [] (batch.filler ∷ []) ++ fillers_from format batch.next rest) (sym some);
      ends = ap (put_all format at) split ∙ fold-append (put format) at first rest ∙ needs.ends ∙ ap (λ n. put_all format n rest) next;
    }

-- batch by batch the fillers are those of the notifications one by one
pub batches_fillers : (format : Format) (at : ℕ) (notes : List Note) (batches : List Batch) → HasRoom format at → All IsNote notes → AreBatches format at notes batches
    → batch_fillers batches ≡ fillers_from format at notes
batches_fillers format at notes [] room valid are = ap (fillers_from format at) (sym are)
batches_fillers format at notes (batch ∷ batches) room valid are =
    let left = leaves format at notes batch room valid are.0 in
    let rest = batches_fillers format batch.next (drop batch.fits notes) batches (batches_stay.room format at notes batch room are.0) (All-drop IsNote batch.fits notes valid) are.1 in
    ap (λ more. cond (batch.filler == 0) [] (batch.filler ∷ []) ++ more) rest ∙ sym left.fillers

-- batch by batch they end where they do one by one
pub batches_ends : (format : Format) (at : ℕ) (notes : List Note) (batches : List Batch) → HasRoom format at → All IsNote notes → AreBatches format at notes batches
    → batches_end at batches ≡ put_all format at notes
batches_ends format at notes [] room valid are = ap (put_all format at) (sym are)
batches_ends format at notes (batch ∷ batches) room valid are =
    let left = leaves format at notes batch room valid are.0 in
    batches_ends format batch.next (drop batch.fits notes) batches (batches_stay.room format at notes batch room are.0) (All-drop IsNote batch.fits notes valid) are.1 ∙ sym left.ends
