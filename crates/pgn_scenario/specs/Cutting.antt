-- Where a text is cut.
use Rattle.std.specs.Prelude.{◌≡◌, ℕ, true, List, ◌∷◌, ◌++◌}
use Rattle.pgn_language.specs.laws.Inputs.{lacks}

-- a text is cut at the first such byte, which belongs to neither part
pub record IsCutAt (byte : ℕ) (text front back : List ℕ) : Type 0 where
  pub whole : text ≡ front ++ byte ∷ back
  pub first : lacks byte front ≡ true
