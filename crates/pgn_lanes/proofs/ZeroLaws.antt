-- The first zero byte by its place.
use Rattle.std.proofs.Common.{◌≡◌, ℕ, zero, suc, ◌+◌, ◌-◌, ◌^◌, ◌<◌, ◌≤◌, map, ⊎_elim, w64, Bool, true, false, cond, Some, None, List, [], ◌∷◌, length, get_or, refl, sym, ap, ◌∙◌, arith}
use Rattle.std.specs.List.{position, position_or_len}
use Rattle.std.proofs.Common.{ltb}
use Rattle.std.proofs.lemmas.Bool.Decides.{nat_tests}
use Rattle.std.specs.Int.{bit_at}
use Rattle.std.specs.Simd.Lanes.{mask_l, chunk}
use Rattle.std.proofs.lemmas.Simd.{length-chunk, get_or-chunk, bit_mask_l}
use Rattle.std.proofs.lemmas.Nat.Bits.{bit_at-trailing_zeros}
use Rattle.std.proofs.lemmas.List.{length-map, get_or_past}
use Rattle.std.proofs.lemmas.Bool.{cases_lt}
use lib.Count.{count_trailing_zeros}
use Rattle.std.specs.Prelude.{option_map}
use Rattle.pgn_lanes.specs.Zero.{is_zero, plain_zero, HasNoZeroBefore}

-- a zero byte with none before it is the first
pub zero_at : (bytes : List ℕ) (at : ℕ) → at < length bytes → HasNoZeroBefore at bytes → is_zero (get_or bytes at 0) ≡ true → Some at ≡ plain_zero bytes
zero_at [] at within before here = absurd (omega arith)
zero_at (x ∷ xs) zero within before here = rw here refl
zero_at (x ∷ xs) (suc at) within before here =
    let first : is_zero x ≡ false = before 0 (omega arith) in
    let rest = zero_at xs at (omega arith) (λ k h. before (suc k) (omega arith)) here in
    let e : suc at ≡ at + 1 = omega arith in
    rw first (ap Some e ∙ ap (option_map (λ place. place + 1)) rest)

-- no byte is zero
pub zero_none : (bytes : List ℕ) → HasNoZeroBefore (length bytes) bytes → None ≡ plain_zero bytes
zero_none [] before = refl
zero_none (x ∷ xs) before =
    let first : is_zero x ≡ false = before 0 (omega arith) in
    rw first (ap (option_map (λ place. place + 1)) (zero_none xs (λ k h. before (suc k) (omega arith))))

-- a test of each element, by its place
at_map : (p : ℕ → Bool) (xs : List ℕ) (k : ℕ) → k < length xs → get_or (map p xs) k false ≡ p (get_or xs k 0)
at_map p [] k h = absurd (omega arith)
at_map p (x ∷ xs) zero h = refl
at_map p (x ∷ xs) (suc k) h = at_map p xs k (omega arith)

is_set : (b : Bool) → cond {A = ℕ} b 1 0 ≡ 1 → b ≡ true
is_set true h = refl
is_set false h = absurd (omega arith)

is_clear : (b : Bool) → cond {A = ℕ} b 1 0 ≡ 0 → b ≡ false
is_clear true h = absurd (omega arith)
is_clear false h = refl

-- the lowest bit of the mask of lanes that have a zero byte is the first zero byte
pub zero_in_mask : (bytes : List ℕ) (at n m : ℕ) → at + n ≤ length bytes → m ≡ mask_l (map is_zero (chunk at n bytes)) → 0 < m → m < 2 ^ 64 → HasNoZeroBefore at bytes
    → Some (at + count_trailing_zeros 64 m) ≡ plain_zero bytes
zero_in_mask bytes at n m room is some small before =
    let lanes = chunk at n bytes in
    let long : length lanes ≡ n = length-chunk at n bytes room in
    let marks = map is_zero lanes in
    let r = count_trailing_zeros 64 m in
    let lowest = bit_at-trailing_zeros w64 m some small in
    let bits = λ (i : ℕ). ap (λ (x : ℕ). bit_at x i) is ∙ bit_mask_l marks i in
    let here : get_or marks r false ≡ true = is_set (get_or marks r false) (sym (bits r) ∙ lowest.1) in
    let within : r < n = ⊎_elim (λ l. l) (λ ge. absurd (cc (here, get_or_past marks r false (omega (arith, length-map lanes is_zero))))) (cases_lt r n) in
    let at_lane = λ (i : ℕ) (l : i < n). at_map is_zero lanes i (omega arith) ∙ ap is_zero (get_or-chunk at n bytes i 0 l) in
    let no_earlier : HasNoZeroBefore (at + r) bytes = λ k h.
    ⊎_elim (λ l. before k l) (λ ge.
    let i = k - at in
    let e : at + i ≡ k = omega arith in
    let first : i < r = omega arith in
    ap (λ (j : ℕ). is_zero (get_or bytes j 0)) (sym e) ∙ sym (at_lane i (omega arith)) ∙ is_clear (get_or marks i false) (sym (bits i) ∙ lowest.2 i first)) (cases_lt k at)
    in
    zero_at bytes (at + r) (omega arith) no_earlier (sym (at_lane r within) ∙ here)

-- ---- the same place as std's word for it
position_here : (x : ℕ) (xs : List ℕ) → is_zero x ≡ true → position is_zero (x ∷ xs) ≡ Some 0
position_here x xs e =
    let n : position_or_len is_zero (x ∷ xs) ≡ 0 = rw e refl in
    let within : ltb (position_or_len is_zero (x ∷ xs)) (length (x ∷ xs)) ≡ true = grind (arith, nat_tests) in
    rw within (ap Some n)

position_later : (x : ℕ) (xs : List ℕ) → is_zero x ≡ false → position is_zero (x ∷ xs) ≡ option_map (λ place. place + 1) (position is_zero xs)
position_later x xs e =
    let n : position_or_len is_zero (x ∷ xs) ≡ position_or_len is_zero xs + 1 = rw e (omega arith) in
    let within : ltb (position_or_len is_zero (x ∷ xs)) (length (x ∷ xs)) ≡ ltb (position_or_len is_zero xs) (length xs) = rw n (grind (arith, nat_tests)) in
    rw within (elim (ltb (position_or_len is_zero xs) (length xs)) as (λ b. cond b (Some (position_or_len is_zero (x ∷ xs))) None ≡ option_map (λ place. place + 1) (cond b (Some (position_or_len is_zero xs)) None)) [
      | true ↦ ap Some n
      | false ↦ refl
    ])

-- the zero that is found is the first one
pub zero_is_first : (bytes : List ℕ) → plain_zero bytes ≡ position is_zero bytes
zero_is_first [] = refl
zero_is_first (x ∷ xs) = elim (is_zero x) as (λ b. is_zero x ≡ b → cond b (Some 0) (option_map (λ place. place + 1) (plain_zero xs)) ≡ position is_zero (x ∷ xs)) [
  | true ↦ λ e. sym (position_here x xs e)
  | false ↦ λ e. ap (option_map (λ place. place + 1)) (zero_is_first xs) ∙ sym (position_later x xs e)
] refl
