-- How many savepoints have a name, and what a map of such counts says.
use Rattle.std.specs.Prelude.{◌≡◌, ℕ, ◌+◌, ◌-◌, ◌<◌, ◌≤◌, cond, List, [], ◌∷◌, drop, bytes_eq, unwrap_or}
use Rattle.std.specs.Map.{lookup}
use Rattle.pgn_block.specs.declared.savepoint.Savepoint.{Savepoint}
use Rattle.pgn_block.specs.Kept.{is_named}

-- how many of these savepoints have the name
abbrev pub how_many : List ℕ → List Savepoint → ℕ
how_many name [] = 0
how_many name (savepoint ∷ savepoints) = cond (is_named name savepoint) 1 0 + how_many name savepoints

-- how often the entries of a map count the name
abbrev pub count_of : List (List ℕ × ℕ) → List ℕ → ℕ
count_of counts name = unwrap_or (lookup (bytes_eq name) counts) 0

-- each name is counted as often as the savepoints after the first few have it
abbrev pub AreCounted : ℕ → List Savepoint → List (List ℕ × ℕ) → Type 0
AreCounted few savepoints counts = (name : List ℕ) → count_of counts name ≡ how_many name (drop few savepoints)

-- the name is counted once more, and the others as before
abbrev pub CountsMore : List ℕ → List (List ℕ × ℕ) → List (List ℕ × ℕ) → Type 0
CountsMore name before after = (other : List ℕ) → count_of after other ≡ count_of before other + cond (bytes_eq name other) 1 0

-- the name is counted once less, and the others as before
abbrev pub CountsLess : List ℕ → List (List ℕ × ℕ) → List (List ℕ × ℕ) → Type 0
CountsLess name before after = (other : List ℕ) → count_of after other ≡ count_of before other - cond (bytes_eq name other) 1 0

-- the name of a savepoint that has so many before it is counted, unless it is one of the first few
pub record CountsAt (few place : ℕ) (name : List ℕ) (before after : List (List ℕ × ℕ)) : Type 0 where
  pub among_few : place < few → after ≡ before
  pub past_few : few ≤ place → CountsMore name before after
