-- Laws of the plain definitions.
use Rattle.std.specs.Prelude.{◌≡◌, ℕ, ◌<◌, ◌≤◌, ◌↔◌, false, List, [], length, Some, None, All, Contains, slice_index, slice_index_or}
use Rattle.pgn_lanes.specs.Least.{plain_least}
use Rattle.pgn_lanes.specs.Behind.{is_woken, plain_behind}

-- the least of a list is a word of it that no word is below
abbrev pub LeastIsLeast : Type 0
LeastIsLeast = (words : List ℕ) (least : ℕ) → (plain_least words ≡ Some least) ↔ (Contains words least × All (λ word. least ≤ word) words)

-- the empty list alone has no least
abbrev pub OnlyEmptyHasNone : Type 0
OnlyEmptyHasNone = (words : List ℕ) → (plain_least words ≡ None) ↔ (words ≡ [])

-- there is an answer for each listener
abbrev pub OneAnswerEach : Type 0
OneAnswerEach = (head db : ℕ) (positions owns : List ℕ) → length positions ≡ length owns → length (plain_behind head db positions owns) ≡ length positions

-- it is told by the position and the database of that listener alone
abbrev pub EachByItself : Type 0
EachByItself = (head db : ℕ) (positions owns : List ℕ) (i : ℕ) → length positions ≡ length owns → i < length positions
    → slice_index_or (plain_behind head db positions owns) i false ≡ is_woken head db (slice_index positions i) (slice_index owns i)
