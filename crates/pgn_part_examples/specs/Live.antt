-- Data of the examples.
use Rattle.std.specs.Prelude.{ℕ, [], ◌∷◌}
use Rattle.pgn_model.specs.declared.item.Item.TheVariants.{Line}
use Rattle.pgn_live.specs.Cames.{Came}

-- a session has begun a line of its script
abbrev pub line_of : ℕ → ℕ → Came
line_of session line = record { session = session; what = Line line ∷ [] }
