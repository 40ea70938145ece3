-- Lemmas for the worked example.
use Rattle.std.proofs.Common.{◌≡◌, ◌≢◌, ℕ, zero, suc, ◌-◌, ◌<◌, List, [], ◌∷◌, length, IsSomeAnd, slice_get, slice_index_or, cond, ◌==◌, All, Contains, inr, sym, ap, ap₂, ◌∙◌, refl, subst, arith, rules}
use Rattle.std.specs.Prelude.{codes}
use Rattle.std.specs.Str.{byte}
use Rattle.std.proofs.lemmas.List.Elements.{All-nil, All-cons}
use Rattle.std.proofs.lemmas.List.Kept.{AllPairs-cons}
use Rattle.std.proofs.lemmas.Str.{IsUtf8-from_ascii}
use Rattle.std.proofs.lemmas.Str.Ascii.{IsAscii-nil, IsAscii-cons}
use Rattle.pgn_base.specs.declared.note.Note.{Note}
use Rattle.pgn_base.specs.declared.format.Format.TheVariants.{One}
use Rattle.pgn_journal.specs.declared.tx.Tx.{Tx}
use Rattle.pgn_journal.specs.declared.tx.Fate.TheVariants.{Committed, Aborted}
use Rattle.pgn_journal.specs.Begins.{Begins}
use Rattle.pgn_base.specs.Notes.{IsNote}
use Rattle.pgn_journal.specs.Journal.{xids_of, IsFinished}
use Rattle.pgn_journal.specs.Packing.{put_all, page_of, place, place_at, fits}
use Rattle.pgn_journal.specs.QueueUse.{NoPage}
use Rattle.pgn_examples.specs.Packing.{bare_note, sent, letters}
use Rattle.pgn_journal.proofs.PackingLemmas.{first_place, places_agree}
use Rattle.pgn_examples.proofs.PackingSteps.{length-letters, full_5, full_6, larger_end, larger_4}
use Rattle.pgn_hub.specs.Gathered.{IsBy}
use Rattle.pgn_part_examples.specs.Hub as example

-- what follows the third transaction in the journal that the places are known of
after_third : List Tx
after_third = sent example.long_note 0 Aborted ∷ sent (record { channel = codes "c"; payload = codes "last" } ∷ []) 1 Committed ∷ []

journal_5 : List Tx
journal_5 = example.long_3 ∷ example.long_3 ∷ example.long_5 ∷ []

place_5 : place One journal_5 5 ≡ place_at 1 8020
unfolding journal_5 after_third
place_5 = sym (places_agree One journal_5 after_third 5 (omega arith)) ∙ full_5

place_6 : place One journal_5 6 ≡ place_at 2 0
unfolding journal_5 after_third
place_6 = sym (places_agree One journal_5 after_third 6 (omega arith)) ∙ full_6

-- two transactions with long entries leave the third without a page
pub no_page : NoPage One 2 (example.long_3 ∷ example.long_3 ∷ example.long_5 ∷ []) example.full_5
unfolding journal_5
no_page = record {
  cut_short = record {
    aborted = refl;
    some = refl;
    not_all = omega arith;
    stopped = inr (ap₂ fits place_5 (length-letters One (byte "x") 7999));
  };
  floor_below = omega arith;
  floor = sym (ap page_of (first_place One journal_5));
  head = sym (ap page_of place_6);
  no_page = omega arith;
  holder = search rules;
}

larger_journal : List Tx
larger_journal = sent example.three_notes 2 Aborted ∷ []

larger_place : place One larger_journal 4 ≡ place_at 2 0
unfolding larger_journal
larger_place = sym (places_agree One larger_journal (sent (bare_note ∷ []) 1 Committed ∷ []) 4 (omega arith)) ∙ larger_4

larger_rest : put_all One (place One larger_journal 3) (letters (byte "x") 7999 ∷ letters (byte "y") 7999 ∷ []) ≡ place_at 1 8020
larger_rest = ap (λ at. put_all One at (letters (byte "x") 7999 ∷ letters (byte "y") 7999 ∷ [])) (first_place One larger_journal) ∙ larger_end

-- nor is there one for the third notification of a transaction with two large ones before it
pub larger_no_page : NoPage One 2 (sent example.three_notes 2 Aborted ∷ []) example.full_3
unfolding larger_journal
larger_no_page = record {
  cut_short = record {
    aborted = refl;
    some = refl;
    not_all = omega arith;
    stopped = inr (ap₂ fits larger_rest (length-letters One (byte "z") 7999));
  };
  floor_below = omega arith;
  floor = sym (ap page_of (first_place One larger_journal));
  head = sym (ap page_of larger_place);
  no_page = omega arith;
  holder = search rules;
}

-- an element of a list of one
pub only : {A : Type 0} (a b : A) → Contains (a ∷ []) b → a ≡ b
only a b (zero, within, is) = is
only a b (suc k, within, is) = absurd (omega (arith, within))

-- a journal of one transaction
pub only_tx : (journal : List Tx) → length journal ≡ 1 → Begins (example.tx_3 ∷ []) journal → journal ≡ example.tx_3 ∷ []
only_tx [] l h = absurd (omega (arith, l))
only_tx (tx ∷ []) l h = h.is
only_tx (tx ∷ other ∷ txs) l h = absurd (omega (arith, l))

-- a second transaction would be one of session 1, or one of session 2
by_nobody : (tx : Tx) (n : ℕ) → [] ≡ xids_of 1 (example.tx_3 ∷ tx ∷ []) → 3 ∷ [] ≡ xids_of 2 (example.tx_3 ∷ tx ∷ [])
    → IsSomeAnd (slice_get (example.last_1 ∷ example.last_2 ∷ []) n) (λ k. IsBy k tx) → ⊥
by_nobody tx zero own_1 own_2 h =
    let four : List ℕ = 4 ∷ [] in
    let more : [] ≡ four = subst (λ (s : ℕ). [] ≡ cond (s == 1) four []) h.session own_1 in
    let lengths : 0 ≡ 1 = ap length more in
    omega (arith, lengths)
by_nobody tx (suc zero) own_1 own_2 h =
    let three : List ℕ = 3 ∷ [] in
    let four : List ℕ = 4 ∷ [] in
    let more : three ≡ 3 ∷ four = subst (λ (s : ℕ). three ≡ 3 ∷ cond (s == 2) four []) h.session own_2 in
    let lengths : 1 ≡ 2 = ap length more in
    omega (arith, lengths)
by_nobody tx (suc (suc n)) own_1 own_2 h = h

-- no journal of two transactions begins with session 2's only one where session 1 has none
pub no_second : (journal : List Tx) → length journal ≡ 2 → Begins (example.tx_3 ∷ []) journal → [] ≡ xids_of 1 journal → 3 ∷ [] ≡ xids_of 2 journal
    → All (λ tx. IsSomeAnd (slice_get (example.last_1 ∷ example.last_2 ∷ []) (tx.session - 1)) (λ k. IsBy k tx)) journal → ⊥
no_second [] l h own_1 own_2 by = omega (arith, l)
no_second (first ∷ []) l h own_1 own_2 by = omega (arith, l)
no_second (first ∷ tx ∷ []) l h own_1 own_2 by =
    let is : first ≡ example.tx_3 = ap (λ xs. slice_index_or xs 0 first) h.is in
    by_nobody tx (tx.session - 1) (subst (λ (a : Tx). [] ≡ xids_of 1 (a ∷ tx ∷ [])) is own_1) (subst (λ (a : Tx). 3 ∷ [] ≡ xids_of 2 (a ∷ tx ∷ [])) is own_2)
    (by 1 tx (omega arith))
no_second (first ∷ tx ∷ other ∷ txs) l h own_1 own_2 by = omega (arith, l)

-- one byte that is not zero
one_byte : (byte : ℕ) → 0 < byte → Contains (byte ∷ []) 0 → ⊥
one_byte byte some (zero, within, is) = absurd (omega (arith, some, is))
one_byte byte some (suc k, within, is) = absurd (omega (arith, within))

-- a notification on the channel `c` with one letter
letter_valid : (letter : ℕ) → 0 < letter → letter < 128 → IsNote (record { channel = codes "c"; payload = letter ∷ [] })
letter_valid letter some low = record {
  name = record { text = IsUtf8-from_ascii (99 ∷ []) (IsAscii-cons 99 [] (omega arith) IsAscii-nil); some = omega arith; short = omega arith; no_nul = one_byte 99 (omega arith) };
  text = record { text = IsUtf8-from_ascii (letter ∷ []) (IsAscii-cons letter [] low IsAscii-nil); short = omega arith; no_nul = one_byte letter some };
}

other_notes : example.note_a ≡ example.note_b → ⊥
other_notes h = let letters_are : 97 ≡ 98 = ap (λ (note : Note). slice_index_or note.payload 0 0) h in omega (arith, letters_are)

-- transaction 3 of the examples is finished
pub finished : IsFinished example.tx_3
finished = record {
  some = λ h. let lengths : 2 ≡ 0 = ap length h in omega (arith, lengths);
  valid = All-cons IsNote example.note_a (example.note_b ∷ []) (letter_valid 97 (omega arith) (omega arith))
      (All-cons IsNote example.note_b [] (letter_valid 98 (omega arith) (omega arith)) (All-nil IsNote));
  different = AllPairs-cons (λ (a b : Note). a ≢ b) example.note_a (example.note_b ∷ [])
      (All-cons (λ (b : Note). example.note_a ≢ b) example.note_b [] other_notes (All-nil (λ (b : Note). example.note_a ≢ b)))
      (AllPairs-cons (λ (a b : Note). a ≢ b) example.note_b [] (All-nil (λ (b : Note). example.note_b ≢ b)) (λ i j d lt within. absurd (omega (arith, within))));
  queueing = refl;
}
