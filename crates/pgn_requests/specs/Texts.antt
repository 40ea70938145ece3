-- The text of a query, without comments and line feeds.
use Rattle.std.specs.Prelude.{ℕ, ◌+◌, ◌-◌, Bool, cond, ◌||◌, ◌==◌, List, [], ◌∷◌, ◌++◌, map, length, take, drop}
use Rattle.std.specs.List.{prefix_len, suffix_len}
use Rattle.pgn_language.specs.Tokens.{is_blank}
use Rattle.pgn_requests.specs.declared.mode.Mode.{Mode}
use Rattle.pgn_requests.specs.declared.mode.Mode.TheVariants.{Outside, Slash, Dash, Single, Double, Comment, Star, Open, Rest}

-- where the next byte stands after a byte outside
abbrev pub entered : ℕ → Mode
entered b = cond (b == 47) Slash (cond (b == 45) Dash (cond (b == 39) Single (cond (b == 34) Double Outside)))

-- outside, or in the comment around the one that ends
abbrev pub left : ℕ → Mode
left depth = cond (depth == 0) Outside (Comment (depth - 1))

-- where the next byte stands after a byte in a comment, which may end it or begin one more
abbrev pub commented : ℕ → ℕ → Mode
commented depth b = cond (b == 42) (Star depth) (cond (b == 47) (Open depth) (Comment depth))

-- a comment to the end of the line ends with this byte
abbrev pub ends_line : ℕ → Bool
ends_line b = b == 10 || b == 13

-- where the next byte stands
abbrev pub next_mode : Mode → ℕ → Mode
next_mode Outside b = entered b
next_mode Slash b = cond (b == 42) (Comment 0) (entered b)
next_mode Dash b = cond (b == 45) Rest (entered b)
next_mode Single b = cond (b == 39) Outside Single
next_mode Double b = cond (b == 34) Outside Double
next_mode (Comment depth) b = commented depth b
next_mode (Star depth) b = cond (b == 47) (left depth) (commented depth b)
next_mode (Open depth) b = cond (b == 42) (Comment (depth + 1)) (commented depth b)
next_mode Rest b = cond (ends_line b) Outside Rest

-- what a byte outside gives: a line feed is a blank, and what may begin a comment is held back
abbrev pub given : ℕ → List ℕ
given b = cond (b == 10) (32 ∷ []) (cond (b == 47 || b == 45) [] (b ∷ []))

-- what the end of a comment gives: a blank where it stands in no other
abbrev pub left_gives : ℕ → List ℕ
left_gives depth = cond (depth == 0) (32 ∷ []) []

-- what a byte gives where it stands
abbrev pub mode_gives : Mode → ℕ → List ℕ
mode_gives Outside b = given b
mode_gives Slash b = cond (b == 42) [] (47 ∷ given b)
mode_gives Dash b = cond (b == 45) [] (45 ∷ given b)
mode_gives Single b = b ∷ []
mode_gives Double b = b ∷ []
mode_gives (Comment depth) b = []
mode_gives (Star depth) b = cond (b == 47) (left_gives depth) []
mode_gives (Open depth) b = []
mode_gives Rest b = cond (ends_line b) (32 ∷ []) []

-- what the end of the text gives: what was held back, and a `/` for a comment that does not end
abbrev pub end_gives : Mode → List ℕ
end_gives Outside = []
end_gives Slash = 47 ∷ []
end_gives Dash = 45 ∷ []
end_gives Single = []
end_gives Double = []
end_gives (Comment depth) = 47 ∷ []
end_gives (Star depth) = 47 ∷ []
end_gives (Open depth) = 47 ∷ []
end_gives Rest = []

-- bytes that stand so, with a blank for each comment and for each line feed outside of quotes
abbrev pub plain_from : Mode → List ℕ → List ℕ
plain_from mode [] = end_gives mode
plain_from mode (b ∷ bytes) = mode_gives mode b ++ plain_from (next_mode mode b) bytes

-- a text, with a blank for each comment and for each line feed outside of quotes
abbrev pub plain : List ℕ → List ℕ
plain text = plain_from Outside text

-- a blank or `;`
abbrev pub is_tail : ℕ → Bool
is_tail b = is_blank b || b == 59

-- bytes without the blanks and `;` at their end
abbrev pub without_tail : List ℕ → List ℕ
without_tail bytes = take (length bytes - suffix_len is_tail bytes) bytes

-- bytes without the blanks and `;` at their front: the commands that end there are empty
abbrev pub without_head : List ℕ → List ℕ
without_head bytes = drop (prefix_len is_tail bytes) bytes

-- what is read of a text
abbrev pub bare : List ℕ → List ℕ
bare text = without_head (without_tail (plain text))

-- a byte of one line
abbrev pub unbroken : ℕ → ℕ
unbroken b = cond (b == 10) 32 b

-- the text as one line: the line feeds that are left stand between quotes
abbrev pub one_line : List ℕ → List ℕ
one_line text = map unbroken text
