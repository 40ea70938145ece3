-- What a queue carries, by session.
use Rattle.std.specs.Prelude.{ℕ, ◌==◌, cond, List, [], ◌∷◌, flat_map}
use Rattle.pgn_outlet.specs.declared.came.Came.{Came}

-- what one push carries, where it is for session n
abbrev pub what_in : {T : Type 0} → ℕ → Came T → List T
what_in n came = cond (came.session == n) (came.what ∷ []) []

-- what these carry for session n, in order
abbrev pub what_of : {T : Type 0} → ℕ → List (Came T) → List T
what_of n cames = flat_map (what_in n) cames
