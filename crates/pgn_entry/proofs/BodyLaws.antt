-- A body and its parts: two texts, each with a zero byte after it, and what stands after them.
use Rattle.std.proofs.Common.{◌≡◌, ℕ, ◌+◌, ◌<◌, ◌≤◌, true, false, List, [], ◌∷◌, ◌++◌, length, take, drop, replicate, get_or, refl, sym, ap, ◌∙◌, inl, inr, arith, append_assoc, length-append}
use Rattle.std.specs.Prelude.{Contains, count_by}
use Rattle.std.specs.List.{position_or_len, before_first, after_first}
use Rattle.std.proofs.lemmas.List.{take_at, drop_at, get_or-take, get_or_at, get_or-replicate, length-replicate, same_lists}
use Rattle.std.proofs.lemmas.List.Elements.{All-get_or, All-replicate}
use Rattle.std.proofs.lemmas.List.Sums.{position_or_len_is, passes_at_first, split_at_first}
use Rattle.std.proofs.lemmas.Bool.{cases_lt, eqb-true}
use Rattle.pgn_entry.specs.Reading.{is_zero, IsAllZero, note_of, padding_of}
use Rattle.pgn_entry.proofs.SplitLaws.{count_none, count_split}

-- where a zero byte is counted, one is first
pub place_within : (bytes : List ℕ) → 0 < count_by is_zero bytes → position_or_len is_zero bytes < length bytes
place_within bytes some = elim (cases_lt (position_or_len is_zero bytes) (length bytes)) [
  | inl within ↦ within
  | inr past ↦ let none = count_none bytes past in absurd (omega arith)
]

-- what stands before the first zero byte, that byte, and what stands after it
pub zero_apart : (bytes : List ℕ) → 0 < count_by is_zero bytes → bytes ≡ before_first is_zero bytes ++ 0 ∷ after_first is_zero bytes
zero_apart bytes some =
    let within = place_within bytes some in
    let byte : get_or bytes (position_or_len is_zero bytes) 0 ≡ 0 = eqb-true (get_or bytes (position_or_len is_zero bytes) 0) 0 (passes_at_first is_zero bytes 0 within) in
    split_at_first is_zero bytes 0 within ∙ ap (λ (b : ℕ). before_first is_zero bytes ++ b ∷ after_first is_zero bytes) byte

-- a body with two zero bytes, from its parts
pub body_parts : (bytes : List ℕ) → 2 ≤ count_by is_zero bytes → bytes ≡ (note_of bytes).channel ++ 0 ∷ ((note_of bytes).payload ++ 0 ∷ padding_of bytes)
body_parts bytes two =
    let rest = after_first is_zero bytes in
    let one = count_split bytes (place_within bytes (omega arith)) in
    zero_apart bytes (omega arith) ∙ ap (λ (l : List ℕ). before_first is_zero bytes ++ 0 ∷ l) (zero_apart rest (omega arith))

-- an element of the first of two lists
pub left_at : (front rest : List ℕ) (k : ℕ) → k < length front → get_or (front ++ rest) k 0 ≡ get_or front k 0
left_at front rest k h =
    sym (get_or-take (length front) (front ++ rest) k 0 h) ∙ ap (λ (l : List ℕ). get_or l k 0) (take_at front rest (length front) refl)

-- the first zero byte after a text that has none
place_at : (text rest : List ℕ) → ¬ (Contains text 0) → position_or_len is_zero (text ++ 0 ∷ rest) ≡ length text
place_at text rest none =
    position_or_len_is is_zero (text ++ 0 ∷ rest) (length text) 0 (omega (arith, length-append text (0 ∷ rest)))
    (λ k h. elim (is_zero (get_or (text ++ 0 ∷ rest) k 0)) as (λ b. is_zero (get_or (text ++ 0 ∷ rest) k 0) ≡ b → b ≡ false) [
      | true ↦ λ e. absurd (none (k, h, sym (left_at text (0 ∷ rest) k h) ∙ eqb-true (get_or (text ++ 0 ∷ rest) k 0) 0 e))
      | false ↦ λ e. refl
    ] refl)
    (λ h. ap is_zero (get_or_at text 0 rest 0 (length text) refl))

-- what stands before and after it
pub before_zero : (text rest : List ℕ) → ¬ (Contains text 0) → before_first is_zero (text ++ 0 ∷ rest) ≡ text
before_zero text rest none = ap (λ (n : ℕ). take n (text ++ 0 ∷ rest)) (place_at text rest none) ∙ take_at text (0 ∷ rest) (length text) refl

-- behind the first zero byte of a text, one without zero and a rest comes the rest
pub after_zero : (text rest : List ℕ) → ¬ (Contains text 0) → after_first is_zero (text ++ 0 ∷ rest) ≡ rest
after_zero text rest none =
    ap (λ (n : ℕ). drop (n + 1) (text ++ 0 ∷ rest)) (place_at text rest none)
    ∙ ap (drop (length text + 1)) (sym (append_assoc text (0 ∷ []) rest))
    ∙ drop_at (text ++ 0 ∷ []) rest (length text + 1) (length-append text (0 ∷ []))

-- a text without zero and the zero behind it add one to the zeros of the rest
pub count_zero : (text rest : List ℕ) → ¬ (Contains text 0) → count_by is_zero (text ++ 0 ∷ rest) ≡ 1 + count_by is_zero rest
count_zero text rest none =
    count_split (text ++ 0 ∷ rest) (omega (arith, place_at text rest none, length-append text (0 ∷ rest)))
    ∙ ap (λ (l : List ℕ). 1 + count_by is_zero l) (after_zero text rest none)

-- bytes that are all zero are so many zero bytes
pub zeros_are : (bytes : List ℕ) → IsAllZero bytes → bytes ≡ replicate (length bytes) 0
zeros_are bytes all =
    same_lists bytes (replicate (length bytes) 0) (sym (length-replicate (length bytes) 0))
    (λ k d h. All-get_or (λ (byte : ℕ). byte ≡ 0) bytes k d h all ∙ sym (get_or-replicate (length bytes) k 0 d h))

-- so many zero bytes are all zero
pub are_zeros : (count : ℕ) → IsAllZero (replicate count 0)
are_zeros count = All-replicate (λ (byte : ℕ). byte ≡ 0) count 0 refl
