-- Texts between quotes, in which each quote stands twice.
use Rattle.std.specs.Prelude.{ℕ, ◌==◌, cond, List, [], ◌∷◌, ◌++◌, flat_map}

-- a byte, twice where it is the quote
abbrev pub doubled_byte : ℕ → ℕ → List ℕ
doubled_byte quote byte = cond (byte == quote) (quote ∷ quote ∷ []) (byte ∷ [])

-- a text between quotes, each quote inside it twice
abbrev pub quoted : ℕ → List ℕ → List ℕ
quoted quote bytes = quote ∷ [] ++ flat_map (doubled_byte quote) bytes ++ quote ∷ []
