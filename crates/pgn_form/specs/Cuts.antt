-- A text as its first line and the rest.
use Rattle.std.specs.Prelude.{◌≡◌, ℕ, List, ◌∷◌, ◌++◌}
use Rattle.pgn_language.specs.Inputs.{IsOneLine}
use Rattle.pgn_reading.specs.Form.{whole_lines}

-- a text is this line, in which no LF stands, its LF and this rest
pub record IsCut (text line rest : List ℕ) : Type 0 where
  pub parts : text ≡ line ++ 10 ∷ rest
  pub lines : whole_lines text ≡ line ∷ whole_lines rest
  pub one_line : IsOneLine line
