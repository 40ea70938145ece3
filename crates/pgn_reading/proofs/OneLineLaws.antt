-- A text in which no LF stands.
use Rattle.std.proofs.Common.{◌≡◌, ℕ, zero, suc, Bool, true, false, ◌||◌, nat_eq, List, [], ◌∷◌, sym, ap, ◌∙◌, arith, eq-eqb}
use Rattle.std.specs.List.{list_any}
use Rattle.pgn_language.specs.Inputs.{IsOneLine}

-- no LF stands in a text, by a test that computes
pub one-line : (bytes : List ℕ) → list_any (λ b. nat_eq b 10) bytes ≡ false → IsOneLine bytes
one-line [] h there = absurd (omega (arith, there.1))
one-line (b ∷ bytes) h (zero, lt, is) = absurd (let yes : nat_eq b 10 ≡ true = eq-eqb b 10 is in let none : true ≡ false = sym (ap (λ (t : Bool). t || list_any (λ c. nat_eq c 10) bytes) yes) ∙ h in let never : ⊥ = cc in never)
one-line (b ∷ bytes) h (suc k, lt, is) = one-line bytes (later (nat_eq b 10) (list_any (λ c. nat_eq c 10) bytes) h) (k, omega (arith, lt), is)
  where
    later : (t u : Bool) → (t || u) ≡ false → u ≡ false
    later true u h = absurd (let none : ⊥ = cc in none)
    later false u h = h
