-- Places in what was sent: where those of a channel stand, and which is the first.
use Rattle.std.proofs.Math.Bool.{Bool-set}
use Rattle.std.specs.Coded.{le_prop}
use Rattle.std.specs.Prelude.{◌≡◌, ℕ, zero, suc, ◌+◌, ◌≤◌, ◌<◌, Bool, true, false, cond, List, [], ◌∷◌, Option, None, Some}

module _ {X : Type 0} where
  -- the places of those that pass a test, where the first of them all has this place
  abbrev pub places : (X → Bool) → ℕ → List X → List ℕ
  places test at [] = []
  places test at (x ∷ xs) = cond (test x) (at ∷ places test (at + 1) xs) (places test (at + 1) xs)

  -- in this place stands one that passes it
  abbrev pub passes : (X → Bool) → List X → ℕ → Bool
  passes test [] at = false
  passes test (x ∷ xs) zero = test x
  passes test (x ∷ xs) (suc at) = passes test xs at

  -- from a given place on, the first place in which one stands that passes it, if there is one
  abbrev pub IsFirst : (X → Bool) → List X → ℕ → Option ℕ → Type 0
  IsFirst test xs from None = (at : ℕ) → from ≤ at → passes test xs at ≡ false
  IsFirst test xs from (Some first) = (from ≤ first) × (passes test xs first ≡ true) × ((at : ℕ) → from ≤ at → at < first → passes test xs at ≡ false)

  pub IsFirst-prop : (test : X → Bool) (xs : List X) (from : ℕ) (found : Option ℕ) → IsProp (IsFirst test xs from found)
  IsFirst-prop test xs from None = hlevel (le_prop, Bool-set)
  IsFirst-prop test xs from (Some first) = hlevel (le_prop, Bool-set)
