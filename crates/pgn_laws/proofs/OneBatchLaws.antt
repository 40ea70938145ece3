-- No two batches are planned for the same notifications from the same place.
use Rattle.std.proofs.Common.{◌≡◌, ◌≢◌, ℕ, zero, suc, ◌<◌, ◌≤◌, List, [], ◌∷◌, length, take, drop, sym, ap, ◌∙◌, subst, arith, inl, inr}
use Rattle.std.proofs.lemmas.List.{drop_all}
use Rattle.std.proofs.lemmas.Bool.{cases_lt}
use Rattle.pgn_base.specs.declared.format.Format.{Format}
use Rattle.pgn_base.specs.declared.note.Note.{Note}
use Rattle.pgn_journal.specs.Packing.{next_page, bytes_left, put, put_all}
use Rattle.pgn_journal.proofs.PackingLemmas.{put_rises}
use Rattle.pgn_layout.specs.declared.batch.Batch.{Batch}
use Rattle.pgn_layout.specs.Batches.{Runs, FirstIsTooLong, IsWhole, IsFilled, IsPlanned, Whole, Filled}
use Rattle.pgn_layout.specs.Laws.{OneBatch}
use Rattle.pgn_layout.proofs.BatchLaws.{runs_are_cells, batches_stay, fillers_take_rests}

-- none of notifications that run is too long
runs_fit : (format : Format) (at : ℕ) (notes : List Note) (fewer count : ℕ) → fewer < count → count ≤ length notes → Runs format at (take count notes)
    → FirstIsTooLong format (put_all format at (take fewer notes)) (drop fewer notes) → ⊥
runs_fit format at [] fewer count h k runs past = omega (arith, h, k)
runs_fit format at (note ∷ notes) fewer zero h k runs past = omega (arith, h)
runs_fit format at (note ∷ notes) zero (suc count) h k runs past = let here = runs.0.here in cc
runs_fit format at (note ∷ notes) (suc fewer) (suc count) h k runs past = runs_fit format (put format at note) notes fewer count (omega (arith, h)) (omega (arith, k)) runs.1 past

not_nothing : (count : ℕ) (notes : List Note) → 0 < count → count ≤ length notes → take count notes ≢ []
not_nothing zero notes h k e = omega (arith, h)
not_nothing (suc count) [] h k e = omega (arith, k)
not_nothing (suc count) (note ∷ notes) h k e = cc

-- and the page goes on after fewer of them
runs_below : (format : Format) (at : ℕ) (notes : List Note) (fewer count : ℕ) → fewer < count → count ≤ length notes → Runs format at (take count notes)
    → put_all format at (take fewer notes) < next_page at
runs_below format at [] fewer count h k runs = omega (arith, h, k)
runs_below format at (note ∷ notes) fewer zero h k runs = omega (arith, h)
runs_below format at (note ∷ notes) zero (suc count) h k runs = omega arith
runs_below format at (note ∷ notes) (suc fewer) (suc count) h k runs =
    let on : put format at note < next_page at = runs.0.goes_on (not_nothing count notes (omega (arith, h)) (omega (arith, k))) in
    let rest = runs_below format (put format at note) notes fewer count (omega (arith, h)) (omega (arith, k)) runs.1 in
    omega (arith, put_rises format at note, on, rest)

entries_run : (format : Format) (at : ℕ) (notes : List Note) (batch : Batch) → IsPlanned format at notes batch → (batch.fits ≤ length notes) × Runs format at (take batch.fits notes)
entries_run format at notes batch (Whole whole) = (whole.count, whole.entries)
entries_run format at notes batch (Filled filled) = (filled.count, filled.entries)

-- no batch stops before another does
none_stops_before : (format : Format) (at : ℕ) (notes : List Note) (a b : Batch) → IsPlanned format at notes a → IsPlanned format at notes b → a.fits < b.fits → ⊥
none_stops_before format at notes a b (Whole whole) other less =
    let runs = entries_run format at notes b other in
    elim whole.stops as (λ _. ⊥) [
      | inl all ↦ omega (arith, all, less, runs.0)
      | inr page ↦ omega (arith, page, whole.ends, runs_below format at notes a.fits b.fits less runs.0 runs.1)
    ]
none_stops_before format at notes a b (Filled filled) other less =
    let runs = entries_run format at notes b other in
    runs_fit format at notes a.fits b.fits less runs.0 runs.1 filled.too_long

same_count : (format : Format) (at : ℕ) (notes : List Note) (a b : Batch) → IsPlanned format at notes a → IsPlanned format at notes b → a.fits ≡ b.fits
same_count format at notes a b p q = elim (cases_lt a.fits b.fits) as (λ _. a.fits ≡ b.fits) [
  | inl less ↦ absurd (none_stops_before format at notes a b p q less)
  | inr ge ↦ elim (cases_lt b.fits a.fits) as (λ _. a.fits ≡ b.fits) [
    | inl less ↦ absurd (none_stops_before format at notes b a q p less)
    | inr le ↦ omega (arith, ge, le)
  ]
]

same_batch : (a b : Batch) → a.fits ≡ b.fits → a.filler ≡ b.filler → a.next ≡ b.next → a ≡ b
same_batch a b p q r =
    ap (λ (n : ℕ). let batch : Batch = record { fits = n; filler = a.filler; next = a.next } in batch) p
    ∙ ap (λ (n : ℕ). let batch : Batch = record { fits = b.fits; filler = n; next = a.next } in batch) q
    ∙ ap (λ (n : ℕ). let batch : Batch = record { fits = b.fits; filler = b.filler; next = n } in batch) r

nothing_left : (format : Format) (at : ℕ) (notes : List Note) (count : ℕ) → count ≡ length notes → FirstIsTooLong format at (drop count notes) → ⊥
nothing_left format at notes count all past = subst (λ (ns : List Note). FirstIsTooLong format at ns) (drop_all count notes (omega (arith, all))) past

-- of as many entries a batch has a filler or none
not_both : (format : Format) (at : ℕ) (notes : List Note) (a b : Batch) → a.fits ≡ b.fits → IsWhole format at notes a → IsFilled format at notes b → ⊥
not_both format at notes a b same whole filled =
    let ends : put_all format at (take a.fits notes) ≡ put_all format at (take b.fits notes) = ap (λ n. put_all format at (take n notes)) same in
    elim whole.stops as (λ _. ⊥) [
      | inl all ↦ nothing_left format _ notes b.fits (sym same ∙ all) filled.too_long
      | inr page ↦ omega (arith, page, whole.ends, ends, filled.left)
    ]

same_plan : (format : Format) (at : ℕ) (notes : List Note) (a b : Batch) → a.fits ≡ b.fits → IsPlanned format at notes a → IsPlanned format at notes b → a ≡ b
same_plan format at notes a b same (Whole p) (Whole q) =
    same_batch a b same (p.no_filler ∙ sym q.no_filler) (p.ends ∙ ap (λ n. put_all format at (take n notes)) same ∙ sym q.ends)
same_plan format at notes a b same (Whole p) (Filled q) = absurd (not_both format at notes a b same p q)
same_plan format at notes a b same (Filled p) (Whole q) = absurd (not_both format at notes b a (sym same) q p)
same_plan format at notes a b same (Filled p) (Filled q) =
    same_batch a b same (p.rest ∙ ap (λ n. bytes_left (put_all format at (take n notes))) same ∙ sym q.rest) (p.ends ∙ sym q.ends)

-- of two batches planned from one place for the same notifications each field is the same
pub one_batch : OneBatch
one_batch format at notes a b p q = same_plan format at notes a b (same_count format at notes a b p q) p q

-- the laws of one batch
pub ruleset batch_laws = (runs_are_cells, batches_stay, fillers_take_rests, one_batch)
