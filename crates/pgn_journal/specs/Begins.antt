-- Lists that begin other lists.
use Rattle.std.specs.Prelude.{◌≡◌, List, length, take}

-- the first list is a prefix of the second
pub record Begins {A : Type 0} (xs ys : List A) : Type 0 where
  pub is : take (length xs) ys ≡ xs
