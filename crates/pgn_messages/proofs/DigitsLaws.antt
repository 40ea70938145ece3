-- Digits without the zeros at their end.
use Rattle.std.proofs.Common.{◌≡◌, ℕ, suc, ◌+◌, ◌<◌, ◌==◌, Bool, true, cond, List, [], ◌∷◌, length, take, drop, reverse, get_or, ap, ◌∙◌, arith}
use Rattle.std.specs.List.{prefix_len}
use Rattle.std.proofs.lemmas.List.{take_more, reverse-append}
use Rattle.pgn_messages.specs.Server.{without_zeros}

-- the digit is a zero
abbrev is_zero : ℕ → Bool
is_zero digit = digit == 48

-- the digits behind the zeros at the front
abbrev behind_zeros : List ℕ → List ℕ
behind_zeros digits = drop (prefix_len is_zero digits) digits

first_goes : (digit : ℕ) (digits : List ℕ) → is_zero digit ≡ true → behind_zeros (digit ∷ digits) ≡ behind_zeros digits
first_goes digit digits e =
    let more : 1 + prefix_len is_zero digits ≡ suc (prefix_len is_zero digits) = omega arith in
    ap (λ (b : Bool). drop (cond b (1 + prefix_len is_zero digits) 0) (digit ∷ digits)) e ∙ ap (λ (n : ℕ). drop n (digit ∷ digits)) more

-- digits up to a place, and the one there
turned : (digits : List ℕ) (end : ℕ) → end < length digits → reverse (take (end + 1) digits) ≡ get_or digits end 0 ∷ reverse (take end digits)
turned digits end l = ap reverse (take_more digits end 0 l) ∙ reverse-append (take end digits) (get_or digits end 0 ∷ [])

-- a zero at the end goes
pub zero_goes : (digits : List ℕ) (end : ℕ) → end < length digits → get_or digits end 0 ≡ 48 → without_zeros (take (end + 1) digits) ≡ without_zeros (take end digits)
zero_goes digits end l zero =
    ap (λ (ds : List ℕ). reverse (behind_zeros ds)) (turned digits end l) ∙ ap reverse (first_goes (get_or digits end 0) (reverse (take end digits)) (ap is_zero zero))
