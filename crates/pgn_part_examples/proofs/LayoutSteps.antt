-- The worked examples of batches, step by step.
use Rattle.std.proofs.Common.{◌≡◌, ℕ, ◌+◌, ◌<◌, true, false, List, [], ◌∷◌, Option, sym, ap, ◌∙◌, refl, subst, arith, inl}
use Rattle.std.specs.Str.{byte}
use Rattle.pgn_base.specs.declared.format.Format.{Format}
use Rattle.pgn_base.specs.declared.format.Format.TheVariants.{One, Two}
use Rattle.pgn_base.specs.declared.note.Note.{Note}
use Rattle.pgn_journal.specs.Bytes.{header_bytes, aligned, entry_length}
use Rattle.pgn_journal.specs.Packing.{fits, next_page, put, put_bytes, Sender, bytes_left, after_bytes, after_rest, place_at}
use Rattle.pgn_examples.specs.Packing.{bare_note, letters, longest_note}
use Rattle.pgn_examples.proofs.PackingSteps.{length-letters, length-longest, put_letters}
use Rattle.pgn_layout.specs.declared.batch.Batch.{Batch}
use Rattle.pgn_layout.specs.Batches.{Runs, IsPlanned, Whole, Filled, AreBatches, fillers_from, IsPlaced, AfterNotes, AfterFiller}
use Rattle.pgn_part_examples.specs.Layout.{to_the_edge, over_the_edge, first_batch, last_batch, to_the_edge_two, over_the_edge_two, first_batch_two, last_batch_two}
use Rattle.pgn_laws.proofs.OneBatchLaws.{one_batch}
use Rattle.pgn_layout.proofs.PlacingLaws.{placing_begins}

-- whether an entry fits, by the number of letters
fitting : (format : Format) (at count : ℕ) → fits at (entry_length format (letters (byte "x") count)) ≡ fits at (aligned format (header_bytes format + 3 + count))
fitting format at count = ap (fits at) (length-letters format (byte "x") count)

run_on : (format : Format) (at next : ℕ) (note : Note) (notes : List Note) → fits at (entry_length format note) ≡ true → put format at note ≡ next → next < next_page at → Runs format next notes
    → Runs format at (note ∷ notes)
run_on format at next note notes fit ends on rest =
    (record { here = fit; goes_on = λ some. omega (arith, ends, on) }, subst (λ (n : ℕ). Runs format n notes) (sym ends) rest)

run_last : (format : Format) (at : ℕ) (note : Note) → fits at (entry_length format note) ≡ true → Runs format at (note ∷ [])
run_last format at note fit = (record { here = fit; goes_on = λ some. absurd (some refl) }, tt)

first_put : put One 0 (letters (byte "x") 7999) ≡ 2005
unfolding put_bytes after_bytes after_rest
first_put = put_letters One 0 (byte "x") 7999

second_put : put One 2005 (letters (byte "x") 133) ≡ 2043
unfolding put_bytes after_bytes after_rest
second_put = put_letters One 2005 (byte "x") 133

third_put : put One 2043 (letters (byte "x") 1) ≡ 2048
unfolding put_bytes after_bytes after_rest
third_put = put_letters One 2043 (byte "x") 1

last_put : put One 2048 (letters (byte "x") 5) ≡ 2054
unfolding put_bytes after_bytes after_rest
last_put = put_letters One 2048 (byte "x") 5

both_put : put One (put One 0 (letters (byte "x") 7999)) (letters (byte "x") 133) ≡ 2043
both_put = ap (λ at. put One at (letters (byte "x") 133)) first_put ∙ second_put

both_run : (notes : List Note) → Runs One 2043 notes → Runs One 0 (letters (byte "x") 7999 ∷ letters (byte "x") 133 ∷ notes)
both_run notes rest =
    run_on One 0 2005 (letters (byte "x") 7999) (letters (byte "x") 133 ∷ notes) (fitting One 0 7999) first_put (omega arith)
    (run_on One 2005 2043 (letters (byte "x") 133) notes (fitting One 2005 133) second_put (omega arith) rest)

-- three notifications that end with the page are a batch without a filler
pub edge_batch : IsPlanned One 0 to_the_edge (record { fits = 3; filler = 0; next = place_at 1 0 })
edge_batch = Whole (record {
  count = omega arith;
  entries = both_run (letters (byte "x") 1 ∷ []) (run_last One 2043 (letters (byte "x") 1) (fitting One 2043 1));
  no_filler = refl;
  ends = sym (ap (λ at. put One at (letters (byte "x") 1)) both_put ∙ third_put);
  stops = inl refl;
})

-- where the next one does not fit, a filler ends the batch
pub filled_batch : IsPlanned One 0 over_the_edge first_batch
filled_batch = Filled (record {
  count = omega arith;
  entries = both_run [] tt;
  left = omega (arith, both_put);
  too_long = ap (λ at. fits at (entry_length One (letters (byte "x") 5))) both_put ∙ fitting One 2043 5;
  rest = sym (ap bytes_left both_put);
  ends = refl;
})

-- the one that is left is a batch of its own, on the next page
pub whole_batch : IsPlanned One (place_at 1 0) (letters (byte "x") 5 ∷ []) last_batch
whole_batch = Whole (record {
  count = omega arith;
  entries = run_last One 2048 (letters (byte "x") 5) (fitting One 2048 5);
  no_filler = refl;
  ends = sym last_put;
  stops = inl refl;
})

-- a batch that differs from the planned one is not planned
pub not_planned : (format : Format) (at : ℕ) (notes : List Note) (planned other : Batch) → IsPlanned format at notes planned → (other ≡ planned → ⊥) → IsPlanned format at notes other → ⊥
not_planned format at notes planned other good apart h = apart (one_batch format at notes other planned h good)

-- the batches of the three, and the lengths of their fillers
pub both_batches : AreBatches One 0 over_the_edge (first_batch ∷ last_batch ∷ [])
both_batches = (filled_batch, (whole_batch, refl))

-- the notifications over the edge take one filler, of 20 bytes
pub one_filler : fillers_from One 0 over_the_edge ≡ 20 ∷ []
one_filler =
    let past : fits (put One (put One 0 (letters (byte "x") 7999)) (letters (byte "x") 133)) (entry_length One (letters (byte "x") 5)) ≡ false
    = ap (λ at. fits at (entry_length One (letters (byte "x") 5))) both_put ∙ fitting One 2043 5 in
    let second : fits (put One 0 (letters (byte "x") 7999)) (entry_length One (letters (byte "x") 133)) ≡ true
    = ap (λ at. fits at (entry_length One (letters (byte "x") 133))) first_put ∙ fitting One 2005 133 in
    rw (fitting One 0 7999, second, past, both_put) refl

-- The same in format Two.

longest_fits : fits 0 (entry_length Two longest_note) ≡ true
longest_fits = ap (fits 0) (length-longest Two)

longest_put : put Two 0 longest_note ≡ 2022
unfolding put put_bytes after_bytes after_rest
longest_put = ap (put_bytes Two 0) (length-longest Two)

second_put_two : put Two 2022 (letters (byte "x") 45) ≡ 2040
unfolding put_bytes after_bytes after_rest
second_put_two = put_letters Two 2022 (byte "x") 45

third_put_two : put Two 2040 (letters (byte "x") 5) ≡ 2048
unfolding put_bytes after_bytes after_rest
third_put_two = put_letters Two 2040 (byte "x") 5

last_put_two : put Two 2048 (letters (byte "x") 13) ≡ 2058
unfolding put_bytes after_bytes after_rest
last_put_two = put_letters Two 2048 (byte "x") 13

both_put_two : put Two (put Two 0 longest_note) (letters (byte "x") 45) ≡ 2040
both_put_two = ap (λ at. put Two at (letters (byte "x") 45)) longest_put ∙ second_put_two

both_run_two : (notes : List Note) → Runs Two 2040 notes → Runs Two 0 (longest_note ∷ letters (byte "x") 45 ∷ notes)
both_run_two notes rest =
    run_on Two 0 2022 longest_note (letters (byte "x") 45 ∷ notes) longest_fits longest_put (omega arith)
    (run_on Two 2022 2040 (letters (byte "x") 45) notes (fitting Two 2022 45) second_put_two (omega arith) rest)

pub edge_batch_two : IsPlanned Two 0 to_the_edge_two (record { fits = 3; filler = 0; next = place_at 1 0 })
edge_batch_two = Whole (record {
  count = omega arith;
  entries = both_run_two (letters (byte "x") 5 ∷ []) (run_last Two 2040 (letters (byte "x") 5) (fitting Two 2040 5));
  no_filler = refl;
  ends = sym (ap (λ at. put Two at (letters (byte "x") 5)) both_put_two ∙ third_put_two);
  stops = inl refl;
})

pub filled_batch_two : IsPlanned Two 0 over_the_edge_two first_batch_two
filled_batch_two = Filled (record {
  count = omega arith;
  entries = both_run_two [] tt;
  left = omega (arith, both_put_two);
  too_long = ap (λ at. fits at (entry_length Two (letters (byte "x") 13))) both_put_two ∙ fitting Two 2040 13;
  rest = sym (ap bytes_left both_put_two);
  ends = refl;
})

pub whole_batch_two : IsPlanned Two (place_at 1 0) (letters (byte "x") 13 ∷ []) last_batch_two
whole_batch_two = Whole (record {
  count = omega arith;
  entries = run_last Two 2048 (letters (byte "x") 13) (fitting Two 2048 13);
  no_filler = refl;
  ends = sym last_put_two;
  stops = inl refl;
})

pub both_batches_two : AreBatches Two 0 over_the_edge_two (first_batch_two ∷ last_batch_two ∷ [])
both_batches_two = (filled_batch_two, (whole_batch_two, refl))

pub no_filler_two : IsPlanned Two (place_at 0 0) to_the_edge_two (record { fits = 2; filler = 32; next = place_at 1 0 }) → ⊥
no_filler_two = not_planned Two 0 to_the_edge_two _ _ edge_batch_two (λ e. omega (arith, ap (λ (b : Batch). b.fits) e))

pub no_short_filler_two : IsPlanned Two (place_at 0 0) over_the_edge_two (record { fits = 2; filler = 24; next = place_at 1 0 }) → ⊥
no_short_filler_two = not_planned Two 0 over_the_edge_two first_batch_two _ filled_batch_two (λ e. omega (arith, ap (λ (b : Batch). b.filler) e))

-- the same in format Two
pub ruleset batches_two = (edge_batch_two, filled_batch_two, whole_batch_two, both_batches_two, no_filler_two, no_short_filler_two)

-- nothing is placed yet
pub none_placed : (sender : Sender) → IsPlaced One sender [] (bare_note ∷ []) 0 0 []
none_placed sender = placing_begins One sender [] (bare_note ∷ [])

-- and no filler, since the entry fits
pub no_filler_placed : (sender : Sender) (at : ℕ) (cells : List (Option ℕ)) → IsPlaced One sender [] (bare_note ∷ []) 0 at cells → at ≡ 0
unfolding entry_length
no_filler_placed sender at cells (AfterNotes stands) = stands.ends
no_filler_placed sender at cells (AfterFiller stands) = let past = stands.too_long in absurd (cc)

-- the three do not lie on one page
pub not_one_page : Runs One 0 over_the_edge → ⊥
not_one_page runs =
    let fit : fits 2043 (entry_length One (letters (byte "x") 5)) ≡ true = ap (λ at. fits at (entry_length One (letters (byte "x") 5))) (sym both_put) ∙ runs.1.1.0.here in
    let past : fits 2043 (entry_length One (letters (byte "x") 5)) ≡ false = fitting One 2043 5 in
    cc
