-- The live outputs of one run, in two orders.
use Rattle.std.proofs.Common.{◌≡◌, ◌≢◌, ℕ, Bool, true, false, cond, ◌==◌, List, [], ◌++◌, get_or, map, ap, refl, arith, eqb-true}
use Rattle.std.specs.Fmt.{digits}
use Rattle.pgn_live.specs.Lives.{AreWhole, log_of_trace}
use Rattle.pgn_run.specs.Live.{live_text}
use Rattle.pgn_unique.specs.Examples.{side_by_side, one_sent, receives, sends, listens_from, received_items, received_text}
use Rattle.pgn_sorted.specs.Sorting.{sorted}
use Rattle.pgn_sorted.specs.Examples.{both_traces, read_last, sender_first, read_last_text, sender_first_text, exchanged_text, misnamed_text}

-- no number is that of both sessions
apart : (n : ℕ) → (1 == n) ≡ true → (2 == n) ≡ true → ⊥
apart n one two = omega (arith, eqb-true 1 n one, eqb-true 2 n two)

-- all of both traces came where the reader came last
pub read_last-came : AreWhole (map log_of_trace both_traces) read_last
read_last-came n = by (1 == n) (2 == n) (apart n)
  where
    by : (b c : Bool) → (b ≡ true → c ≡ true → ⊥)
        → cond b (listens_from 3) [] ++ (cond c sends.items [] ++ (cond b received_items [] ++ [])) ≡ cond b receives.items [] ++ (cond c sends.items [] ++ [])
    by true true h = absurd (h refl refl)
    by true false h = refl
    by false true h = refl
    by false false h = refl

-- and where the sender came first
pub sender_first-came : AreWhole (map log_of_trace both_traces) sender_first
sender_first-came n = by (1 == n) (2 == n) (apart n)
  where
    by : (b c : Bool) → (b ≡ true → c ≡ true → ⊥) → cond c sends.items [] ++ (cond b receives.items [] ++ []) ≡ cond b receives.items [] ++ (cond c sends.items [] ++ [])
    by true true h = absurd (h refl refl)
    by true false h = refl
    by false true h = refl
    by false false h = refl

-- the live output where the reader came last is this text
pub read_last-shown : live_text side_by_side read_last one_sent both_traces ≡ read_last_text
unfolding digits
read_last-shown = refl

-- and where the sender came first it is this one
pub sender_first-shown : live_text side_by_side sender_first one_sent both_traces ≡ sender_first_text
unfolding digits
sender_first-shown = refl

-- sorted, the first of them is the text of the run
pub read_last-sorted : sorted read_last_text ≡ received_text
unfolding digits
read_last-sorted = refl

-- and so is the other
pub sender_first-sorted : sorted sender_first_text ≡ received_text
unfolding digits
sender_first-sorted = refl

-- the byte at a place
abbrev byte : ℕ → List ℕ → ℕ
byte k bytes = get_or bytes k 0

exchanged-byte : byte 83 (sorted exchanged_text) ≡ 76
unfolding digits
exchanged-byte = refl

misnamed-byte : byte 95 (sorted misnamed_text) ≡ 43
unfolding digits
misnamed-byte = refl

-- with two lines of a session exchanged it is another text
pub exchanged-another : sorted exchanged_text ≢ received_text
exchanged-another e = let same : byte 83 (sorted exchanged_text) ≡ 43 = ap (byte 83) e in omega (arith, exchanged-byte, same)

-- and with a line of another session's name too
pub misnamed-another : sorted misnamed_text ≢ received_text
misnamed-another e = let same : byte 95 (sorted misnamed_text) ≡ 76 = ap (byte 95) e in omega (arith, misnamed-byte, same)
