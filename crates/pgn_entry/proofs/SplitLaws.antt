-- The first zero byte of a list, and how many zero bytes stand after it.
use Rattle.std.proofs.Common.{◌≡◌, ℕ, suc, ◌+◌, ◌<◌, ◌≤◌, Bool, true, false, cond, Some, None, List, [], ◌∷◌, length, take, drop, get_or, subst, refl, sym, ap, ◌∙◌, arith}
use Rattle.std.specs.Prelude.{Contains, count_by}
use Rattle.std.specs.List.{position, position_or_len, before_first, after_first, between}
use Rattle.std.proofs.lemmas.List.Sums.{sum_by-cons, fails_before_first}
use Rattle.std.proofs.lemmas.List.{length-take, get_or-take}
use Rattle.std.proofs.lemmas.Slice.{between_to_end}
use Rattle.std.proofs.lemmas.Bool.Decides.{nat_tests}
use Rattle.pgn_entry.specs.Reading.{is_zero}

-- a front element is counted where it passes
count_by-cons : (p : ℕ → Bool) (x : ℕ) (xs : List ℕ) → count_by p (x ∷ xs) ≡ cond (p x) 1 0 + count_by p xs
count_by-cons p x xs = sum_by-cons (λ y. cond (p y) 1 0) x xs

-- what is first where the front element passes, and where it does not
first_here : (x : ℕ) (xs : List ℕ) → is_zero x ≡ true → position_or_len is_zero (x ∷ xs) ≡ 0
first_here x xs e = rw e refl

first_later : (x : ℕ) (xs : List ℕ) → is_zero x ≡ false → position_or_len is_zero (x ∷ xs) ≡ 1 + position_or_len is_zero xs
first_later x xs e = rw e refl

count_here : (x : ℕ) (xs : List ℕ) → is_zero x ≡ true → count_by is_zero (x ∷ xs) ≡ 1 + count_by is_zero xs
count_here x xs e = rw (count_by-cons is_zero x xs, e) refl

count_later : (x : ℕ) (xs : List ℕ) → is_zero x ≡ false → count_by is_zero (x ∷ xs) ≡ count_by is_zero xs
count_later x xs e = rw (count_by-cons is_zero x xs, e) (omega arith)

-- no zero byte is counted where none is first
pub count_none : (bytes : List ℕ) → length bytes ≤ position_or_len is_zero bytes → count_by is_zero bytes ≡ 0
count_none [] h = refl
count_none (x ∷ xs) h = elim (is_zero x) as (λ b. is_zero x ≡ b → count_by is_zero (x ∷ xs) ≡ 0) [
  | true ↦ λ e. let f = first_here x xs e in absurd (omega arith)
  | false ↦ λ e. let f = first_later x xs e in count_later x xs e ∙ count_none xs (omega arith)
] refl

-- one zero byte is counted, and those after it
pub count_split : (bytes : List ℕ) → position_or_len is_zero bytes < length bytes → count_by is_zero bytes ≡ 1 + count_by is_zero (after_first is_zero bytes)
count_split [] h = absurd (omega arith)
count_split (x ∷ xs) h = elim (is_zero x) as (λ b. is_zero x ≡ b → count_by is_zero (x ∷ xs) ≡ 1 + count_by is_zero (after_first is_zero (x ∷ xs))) [
  | true ↦ λ e. let f = first_here x xs e in let c = count_here x xs e in c ∙ ap (λ (n : ℕ). 1 + count_by is_zero (drop (n + 1) (x ∷ xs))) (sym f)
  | false ↦ λ e.
      let f = first_later x xs e in
      let rest = count_split xs (omega arith) in
      let same : after_first is_zero (x ∷ xs) ≡ after_first is_zero xs = ap (λ (n : ℕ). drop (n + 1) (x ∷ xs)) f ∙ ap (λ (n : ℕ). drop n (x ∷ xs)) (let e : 1 + position_or_len is_zero xs + 1 ≡ suc (position_or_len is_zero xs + 1) = omega arith in e) in
      count_later x xs e ∙ rest ∙ ap (λ (l : List ℕ). 1 + count_by is_zero l) (sym same)
] refl

-- there are no zero bytes before the first
pub none_before : (bytes : List ℕ) → ¬ (Contains (before_first is_zero bytes) 0)
none_before bytes (k, within, is) =
    let size : length (before_first is_zero bytes) ≤ position_or_len is_zero bytes = omega (arith, length-take (position_or_len is_zero bytes) bytes) in
    let same : get_or (before_first is_zero bytes) k 0 ≡ get_or bytes k 0 = get_or-take (position_or_len is_zero bytes) bytes k 0 (omega arith) in
    let passes : is_zero (get_or bytes k 0) ≡ true = ap is_zero (sym same ∙ is) in
    let fails = fails_before_first is_zero bytes k 0 (omega arith) in
    absurd (cc)

-- where the first zero byte is, where there is one
pub place_some : (bytes : List ℕ) (end : ℕ) → position is_zero bytes ≡ Some end → (position_or_len is_zero bytes ≡ end) × (end < length bytes)
place_some bytes end h = grind (arith, nat_tests)

-- where there is none
pub place_none : (bytes : List ℕ) → position is_zero bytes ≡ None → length bytes ≤ position_or_len is_zero bytes
place_none bytes h = grind (arith, nat_tests)

-- what the split at the first zero byte tells
pub split_none : (bytes : List ℕ) → position is_zero bytes ≡ None → count_by is_zero bytes ≡ 0
split_none bytes h = count_none bytes (place_none bytes h)

-- behind the first zero byte there is one zero fewer
pub split_count : (bytes : List ℕ) (end : ℕ) → position is_zero bytes ≡ Some end → count_by is_zero bytes ≡ 1 + count_by is_zero (between (end + 1) (length bytes) bytes)
split_count bytes end h =
    let place = place_some bytes end h in
    let rest : between (end + 1) (length bytes) bytes ≡ after_first is_zero bytes = between_to_end bytes (end + 1) (length bytes) (omega arith) ∙ ap (λ (n : ℕ). drop (n + 1) bytes) (sym place.0) in
    count_split bytes (omega (arith, place)) ∙ ap (λ (l : List ℕ). 1 + count_by is_zero l) (sym rest)

-- before the first zero byte there is none
pub split_no_nul : (bytes : List ℕ) (end : ℕ) → position is_zero bytes ≡ Some end → ¬ (Contains (take end bytes) 0)
split_no_nul bytes end h =
    subst (λ (n : ℕ). ¬ (Contains (take n bytes) 0)) (place_some bytes end h).0 (none_before bytes)
