-- Lists that are compared element by element.
use Rattle.std.specs.Prelude.{Bool, true, false, cond, List, [], ◌∷◌}

-- as many elements, and each is the same by the test
abbrev pub same_by : {X : Type 0} → (X → X → Bool) → List X → List X → Bool
same_by same [] [] = true
same_by same [] (y ∷ ys) = false
same_by same (x ∷ xs) [] = false
same_by same (x ∷ xs) (y ∷ ys) = cond (same x y) (same_by same xs ys) false
