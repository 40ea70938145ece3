-- The places of the runs with a full queue, step by step.
use Rattle.std.proofs.Common.{◌≡◌, ◌≢◌, ℕ, zero, suc, ◌+◌, [], ◌∷◌, length, get_or, true, false, Some, None, inl, inr, sym, ap, ◌∙◌, refl, arith}
use Rattle.std.specs.Prelude.{replicate}
use Rattle.std.specs.List.{list_all}
use Rattle.std.specs.Str.{byte}
use Rattle.std.proofs.lemmas.List.{length-replicate}
use Rattle.std.proofs.lemmas.Bool.{and_from}
use Rattle.pgn_base.specs.declared.format.Format.TheVariants.{One}
use Rattle.pgn_base.specs.declared.note.Note.{Note}
use Rattle.pgn_journal.specs.declared.tx.Fate.TheVariants.{Aborted}
use Rattle.pgn_base.specs.Notes.{IsNote}
use Rattle.pgn_journal.specs.Bytes.{header_bytes, aligned, entry_length}
use Rattle.pgn_journal.specs.Packing.{page_of, is_page_start, fits, place, place_at, put_bytes, after_bytes, after_rest, put, put_all, ended, after}
use Rattle.pgn_answers.specs.Savepoints.{firsts}
use Rattle.pgn_journal.specs.QueueUse.{NoPage}
use Rattle.pgn_examples.specs.FullQueue.{many, long_note, last_one, full_run_journal, larger_run_journal}
use Rattle.pgn_journal.proofs.PackingLemmas.{first_place, place_folds}
use Rattle.pgn_journal.proofs.PlainNotes.{is_plain, plain-note}

length-many : (letter : ℕ) → length (many letter) ≡ 7999
unfolding many
length-many letter = length-replicate 7999 letter

plain_letters : (n letter : ℕ) → is_plain letter ≡ true → list_all is_plain (replicate n letter) ≡ true
plain_letters zero letter h = refl
plain_letters (suc n) letter h = and_from (is_plain letter) (list_all is_plain (replicate n letter)) h (plain_letters n letter h)

-- each of the long notifications can be sent
pub long_valid : (letter : ℕ) → is_plain letter ≡ true → IsNote (long_note letter)
unfolding many
long_valid letter h = plain-note (long_note letter) refl (plain_letters 7999 letter h) (omega arith) (omega arith) (omega (arith, length-replicate 7999 letter))

pub length-long : (letter : ℕ) → entry_length One (long_note letter) ≡ 8020
unfolding entry_length
length-long letter = ap (λ n. aligned One (header_bytes One + 2 + (n + 1))) (length-many letter)

put_long : (at letter : ℕ) → put One at (long_note letter) ≡ put_bytes One at 8020
unfolding put
put_long at letter = ap (put_bytes One at) (length-long letter)

-- after two long notifications
two_long : (a b : ℕ) → put One (put One 0 (long_note a)) (long_note b) ≡ place_at 1 8020
unfolding put_bytes after_bytes after_rest
two_long a b = ap (λ at. put One at (long_note b)) (put_long 0 a) ∙ put_long 2005 b

last_put : put One (place_at 2 0) last_one ≡ place_at 2 24
unfolding put put_bytes after_bytes after_rest entry_length
last_put = refl

full_4 : place One full_run_journal 4 ≡ place_at 0 8020
unfolding put_bytes after_bytes after_rest after ended
full_4 = place_folds One full_run_journal 4 ∙ put_long 0 (byte "x")

-- the second transaction ends 172 bytes before its page's end
pub full_5 : place One full_run_journal 5 ≡ place_at 1 8020
unfolding after ended
full_5 = place_folds One full_run_journal 5 ∙ two_long (byte "x") (byte "x")

-- the third one ends where the third page begins
pub full_6 : place One full_run_journal 6 ≡ place_at 2 0
unfolding after ended
full_6 = place_folds One full_run_journal 6 ∙ ap (ended Aborted) (two_long (byte "x") (byte "x"))

pub full_7 : place One full_run_journal 7 ≡ place_at 2 0
unfolding after ended
full_7 = place_folds One full_run_journal 7 ∙ ap (λ at. ended Aborted (ended Aborted at)) (two_long (byte "x") (byte "x"))

-- the last one takes the first 24 bytes of that page
pub full_8 : place One full_run_journal 8 ≡ place_at 2 24
unfolding after ended
full_8 = place_folds One full_run_journal 8 ∙ ap (λ at. put One (ended Aborted (ended Aborted at)) last_one) (two_long (byte "x") (byte "x")) ∙ last_put

pub larger_end : put_all One 0 (long_note (byte "x") ∷ long_note (byte "y") ∷ []) ≡ place_at 1 8020
larger_end = two_long (byte "x") (byte "y")

pub larger_4 : place One larger_run_journal 4 ≡ place_at 2 0
unfolding after ended
larger_4 = place_folds One larger_run_journal 4 ∙ ap (ended Aborted) larger_end

-- long payloads of different letters are different
pub letters_differ : (a b : ℕ) → a ≢ b → long_note a ≢ long_note b
unfolding many
letters_differ a b h e = h (ap (λ (note : Note). get_or note.payload 0 0) e)

-- none of the three is a repeat
pub three_firsts : firsts (long_note (byte "x") ∷ long_note (byte "y") ∷ long_note (byte "z") ∷ []) ≡ long_note (byte "x") ∷ long_note (byte "y") ∷ long_note (byte "z") ∷ []
unfolding many
three_firsts = refl

-- a long notification does not fit after another on a page
no_fit : (at letter : ℕ) → at ≡ place_at 1 8020 → fits at (entry_length One (long_note letter)) ≡ false
no_fit at letter e = ap (λ (n : ℕ). fits n (entry_length One (long_note letter))) e ∙ ap (λ (n : ℕ). fits (place_at 1 8020) n) (length-long letter)

first_page : page_of (place One full_run_journal 3) ≡ 0
first_page = ap page_of (first_place One full_run_journal)

-- the third transaction does not fit on the second page, and there is no third one
pub full_at_5 : NoPage One 2 full_run_journal (record { xid = 5; queued = 0; head_page = 2; floor_mark = 3; floor_page = 0; holder = Some 1 })
full_at_5 = record {
  cut_short = record { aborted = refl; some = refl; not_all = omega arith; stopped = inr (no_fit (place One full_run_journal 5) (byte "x") full_5) };
  floor_below = omega arith;
  floor = sym first_page;
  head = sym (ap page_of full_6);
  no_page = omega arith;
  holder = (λ e. absurd (cc), λ e. absurd (omega (arith, e)));
}

-- and so with a floor at the second transaction, which begins on the first page too
pub full_at_5_from_4 : NoPage One 2 full_run_journal (record { xid = 5; queued = 0; head_page = 2; floor_mark = 4; floor_page = 0; holder = Some 1 })
full_at_5_from_4 = record {
  cut_short = full_at_5.cut_short;
  floor_below = omega arith;
  floor = sym (ap page_of full_4);
  head = full_at_5.head;
  no_page = omega arith;
  holder = (λ e. absurd (cc), λ e. absurd (omega (arith, e)));
}

-- the fourth finds no page at once
pub full_at_6 : NoPage One 2 full_run_journal (record { xid = 6; queued = 0; head_page = 2; floor_mark = 3; floor_page = 0; holder = Some 1 })
full_at_6 = record {
  cut_short = record { aborted = refl; some = refl; not_all = omega arith; stopped = inl (ap is_page_start full_6) };
  floor_below = omega arith;
  floor = sym first_page;
  head = sym (ap page_of full_7);
  no_page = omega arith;
  holder = (λ e. absurd (cc), λ e. absurd (omega (arith, e)));
}

larger_first : place One larger_run_journal 3 ≡ 0
larger_first = first_place One larger_run_journal

larger_two : put_all One (place One larger_run_journal 3) (long_note (byte "x") ∷ long_note (byte "y") ∷ []) ≡ place_at 1 8020
larger_two = ap (λ (at : ℕ). put_all One at (long_note (byte "x") ∷ long_note (byte "y") ∷ [])) larger_first ∙ larger_end

-- the third notification of a transaction does not fit on the second page
pub larger_at_3 : NoPage One 2 larger_run_journal (record { xid = 3; queued = 2; head_page = 2; floor_mark = 3; floor_page = 0; holder = None })
larger_at_3 = record {
  cut_short = record { aborted = refl; some = refl; not_all = omega arith; stopped = inr (no_fit _ (byte "z") larger_two) };
  floor_below = omega arith;
  floor = sym (ap page_of larger_first);
  head = sym (ap page_of larger_4);
  no_page = omega arith;
  holder = (λ e. refl, λ e. refl);
}
