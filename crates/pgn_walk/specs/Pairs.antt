-- Pairs of numbers, as a set of keys keeps them.
use Rattle.std.specs.Prelude.{◌≡◌, ◌↔◌, ℕ, ◌+◌, ◌*◌, ◌^◌, ◌<◌, true, List, ◌++◌, nat_eq, Contains}
use Rattle.std.specs.List.{list_any}

-- a pair as one number
abbrev pub key_of : ℕ → ℕ → ℕ
key_of first second = first * 4294967296 + second

-- these keys are those of the pairs
abbrev pub AreKeys : List (ℕ × ℕ) → List ℕ → Type 0
AreKeys pairs keys = (first second : ℕ) → second < 2 ^ 32 → (list_any (nat_eq (key_of first second)) keys ≡ true) ↔ Contains pairs (first, second)

-- these pairs are put in
abbrev pub Gathers : List ℕ → List ℕ → List (ℕ × ℕ) → Type 0
Gathers old new more = (pairs : List (ℕ × ℕ)) → AreKeys pairs old → AreKeys (pairs ++ more) new

-- some of these pairs were put in, and the others are left
pub record HasGathered (old new : List ℕ) (all left : List (ℕ × ℕ)) : Type 0 where
  pub front : List (ℕ × ℕ)
  pub split : front ++ left ≡ all
  pub gathers : Gathers old new front
