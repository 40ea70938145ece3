-- How a batch is planned, notification by notification.
use Rattle.std.proofs.Common.{◌≡◌, ◌≢◌, ℕ, ◌+◌, ◌%◌, ◌<◌, ◌≤◌, true, List, [], ◌∷◌, ◌++◌, length, get_or, take, sym, ap, ◌∙◌, refl, subst, arith, add-one, inr}
use Rattle.std.proofs.Math.Seq.{take-suc}
use Rattle.std.proofs.lemmas.Grind.{fold-append}
use Rattle.std.proofs.lemmas.Bool.Decides.{nat_tests}
use Rattle.pgn_base.specs.declared.format.Format.{Format}
use Rattle.pgn_base.specs.declared.note.Note.{Note}
use Rattle.pgn_journal.specs.Bytes.{alignment, entry_length}
use Rattle.pgn_journal.specs.Packing.{next_page, bytes_left, fits, after_bytes, put_bytes, put, put_all, HasRoom}
use Rattle.pgn_journal.proofs.PackingLemmas.{room_after_bytes}
use Rattle.pgn_layout.specs.Batches.{Runs, IsPlanned, Whole}
use Rattle.pgn_layout.proofs.RunLaws.{runs-push, runs_within}

-- the first few of notifications run on the page of a place, and the page goes on after them
pub record Planning (format : Format) (at : ℕ) (notes : List Note) (count next : ℕ) : Type 0 where
  pub entries : Runs format at (take count notes)
  pub ends : next ≡ put_all format at (take count notes)
  pub low : at ≤ next
  pub further : 0 < count → at < next
  pub on : next < next_page at
  pub room : HasRoom format next

-- the first few and one more
one_more : (notes : List Note) (count : ℕ) (note : Note) → count < length notes → note ≡ get_or notes count note → take (count + 1) notes ≡ take count notes ++ note ∷ []
one_more notes count note h e = rw add-one (take-suc notes count note h ∙ ap (λ (n : Note). take count notes ++ n ∷ []) (sym e))

-- a notification that fits ends where its bytes do
put_fitting : (format : Format) (at : ℕ) (note : Note) → entry_length format note ≤ bytes_left at → put format at note ≡ after_bytes format at (entry_length format note)
unfolding put put_bytes
put_fitting format at note fit = let fitting : fits at (entry_length format note) ≡ true = grind (arith, nat_tests) in rw fitting refl

-- one more notification that fits: they run, and end after its bytes
pub record TakesOne (format : Format) (at : ℕ) (notes : List Note) (count end : ℕ) : Type 0 where
  pub entries : Runs format at (take (count + 1) notes)
  pub ends : end ≡ put_all format at (take (count + 1) notes)

takes_one : (format : Format) (at : ℕ) (notes : List Note) (count next len end : ℕ) (note : Note) → Planning format at notes count next → count < length notes → note ≡ get_or notes count note
    → len ≡ entry_length format note → len ≤ bytes_left next → end ≡ after_bytes format next len → TakesOne format at notes count end
takes_one format at notes count next len end note so_far h e size short reaches =
    let front = take count notes in
    let more = one_more notes count note h e in
    let ends = so_far.ends in
    let fit : entry_length format note ≤ bytes_left next = omega (arith, size, short) in
    let fitting : fits (put_all format at front) (entry_length format note) ≡ true = subst (λ (n : ℕ). fits n (entry_length format note) ≡ true) ends (grind (arith, nat_tests)) in
    let on : put_all format at front < next_page at = omega (arith, so_far.on, ends) in
    let runs : Runs format at (front ++ note ∷ []) = runs-push format at front note so_far.entries on fitting in
    let last : put_all format at (front ++ note ∷ []) ≡ put format (put_all format at front) note = fold-append (put format) at front (note ∷ []) in
    record {
      entries = subst (λ (ns : List Note). Runs format at ns) (sym more) runs;
      ends = reaches ∙ ap (after_bytes format next) size ∙ sym (put_fitting format next note fit) ∙ ap (λ n. put format n note) ends ∙ sym last ∙ ap (put_all format at) (sym more);
    }

-- where the page goes on after it, the planning goes on
pub goes_on : (format : Format) (at : ℕ) (notes : List Note) (count next len end : ℕ) (note : Note) → Planning format at notes count next → count < length notes → note ≡ get_or notes count note
    → len ≡ entry_length format note → len ≤ bytes_left next → end ≡ after_bytes format next len → next < end → len % alignment format ≡ 0 → end ≢ next_page at → Planning format at notes (count + 1) end
goes_on format at notes count next len end note so_far h e size short reaches more whole past =
    let taken = takes_one format at notes count next len end note so_far h e size short reaches in
    let front = take (count + 1) notes in
    let ends = taken.ends in
    record {
      entries = taken.entries;
      ends = ends;
      low = omega (arith, so_far.low, more);
      further = λ some. omega (arith, so_far.low, more);
      on = omega (arith, runs_within format at front taken.entries, ends, past);
      room = subst (λ (n : ℕ). HasRoom format n) (sym reaches) (room_after_bytes format next len so_far.room whole);
    }

-- and where it does not, the batch ends
pub plans_page : (format : Format) (at : ℕ) (notes : List Note) (count next len end : ℕ) (note : Note) → Planning format at notes count next → count < length notes → note ≡ get_or notes count note
    → len ≡ entry_length format note → len ≤ bytes_left next → end ≡ after_bytes format next len → end ≡ next_page at → IsPlanned format at notes (record { fits = count + 1; filler = 0; next = end })
plans_page format at notes count next len end note so_far h e size short reaches page =
    let taken = takes_one format at notes count next len end note so_far h e size short reaches in
    Whole (record { count = omega (arith, h); entries = taken.entries; no_filler = refl; ends = taken.ends; stops = inr page })
