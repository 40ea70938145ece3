-- How the lines of a live output are sorted.
use Rattle.std.specs.Prelude.{ℕ, ◌+◌, ◌==◌, Bool, false, cond, not, List, [], ◌∷◌, ◌++◌, codes, filter, filter_map, Option, Some, None, is_some}
use Rattle.std.specs.Char.{is_ascii_digit}
use Rattle.pgn_language.specs.Lines.{lines_of}
use Rattle.pgn_model.specs.Text.{joined}
use Rattle.pgn_text.specs.Rendering.{mark_of}

-- what stands in a line behind this start, if the line begins with it
abbrev pub behind : List ℕ → List ℕ → Option (List ℕ)
behind [] line = Some line
behind (byte ∷ start) [] = None
behind (byte ∷ start) (first ∷ line) = cond (first == byte) (behind start line) None

-- of lines those of session n, in their order: what stands behind `n| `, where a line begins so
abbrev pub lines_from : ℕ → List (List ℕ) → List (List ℕ)
lines_from n lines = filter_map (behind (mark_of (Some n))) lines

-- the line begins with a digit, as each does that stands behind a mark
abbrev pub is_marked : List ℕ → Bool
is_marked [] = false
is_marked (byte ∷ line) = is_ascii_digit byte

-- the line is a section's head
abbrev pub is_head : List ℕ → Bool
is_head line = is_some (behind (codes "session ") line)

-- lines, each head with the lines of its session behind it: those of session n behind the first, of the next behind the second
abbrev pub with_sessions : List (List ℕ) → ℕ → List (List ℕ) → List (List ℕ)
with_sessions all n [] = []
with_sessions all n (line ∷ lines) = cond (is_head line) (line ∷ (lines_from n all ++ with_sessions all (n + 1) lines)) (line ∷ with_sessions all n lines)

-- lines, sorted: those without a mark, in their order, and behind each head the lines of its session
abbrev pub sorted_lines : List (List ℕ) → List (List ℕ)
sorted_lines lines = with_sessions lines 1 (filter (λ line. not (is_marked line)) lines)

-- an output, cut at each LF and sorted
abbrev pub sorted : List ℕ → List ℕ
sorted bytes = joined (sorted_lines (lines_of bytes))
