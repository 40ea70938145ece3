-- The least of a list of words.
use Rattle.std.specs.Prelude.{ℕ, min, List, [], ◌∷◌, Option, None, Some}

-- the lesser of a word and of one that may be missing
abbrev pub lesser : ℕ → Option ℕ → ℕ
lesser word None = word
lesser word (Some other) = min word other

-- the least word of a list, and none of the empty one
abbrev pub plain_least : List ℕ → Option ℕ
plain_least [] = None
plain_least (word ∷ words) = Some (lesser word (plain_least words))

-- the least of a word and the words of a list
abbrev pub least_with : ℕ → List ℕ → ℕ
least_with least [] = least
least_with least (word ∷ words) = least_with (min least word) words
