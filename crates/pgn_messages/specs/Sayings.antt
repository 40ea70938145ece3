-- What the clients of a seat are told piece by piece.
use Rattle.std.specs.Prelude.{ℕ, cond, List, [], ◌∷◌, ◌++◌, Option, Some, None, flat_map, map}
use Rattle.pgn_messages.specs.declared.saying.Saying.{Saying}

-- the signs of one piece: its bytes, and the end of a client, if it ends there
abbrev pub signs_told : Saying → List (Option ℕ)
signs_told saying = map Some saying.bytes.items ++ cond saying.ends (None ∷ []) []

-- the signs of pieces, one after another
abbrev pub all_told : List Saying → List (Option ℕ)
all_told sayings = flat_map signs_told sayings
