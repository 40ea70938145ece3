-- A query's items, and its answer, whole and half.
use Rattle.std.specs.Prelude.{ℕ, List, [], ◌∷◌, ◌++◌, None, Result, Err}
use Rattle.pgn_base.specs.declared.answers.Tag.TheVariants as tag
use Rattle.pgn_model.specs.declared.item.Item.{Item}
use Rattle.pgn_model.specs.declared.item.Item.TheVariants.{Line, Enlist, Reply}
use Rattle.pgn_wire.specs.declared.wire_end.WireEnd.{WireEnd}
use Rattle.pgn_wire.specs.declared.wire_end.WireEnd.TheVariants.{Write, Memory}

-- the items of `LISTEN c`, which is asked first
abbrev pub listens : List Item
listens = Line 1 ∷ Enlist 3 3 ∷ Reply tag.Listen None ∷ []

-- C `LISTEN`
abbrev pub half_answer : List ℕ
half_answer = 67 ∷ 0 ∷ 0 ∷ 0 ∷ 11 ∷ 76 ∷ 73 ∷ 83 ∷ 84 ∷ 69 ∷ 78 ∷ 0 ∷ []

-- and Z
abbrev pub whole_answer : List ℕ
whole_answer = half_answer ++ 90 ∷ 0 ∷ 0 ∷ 0 ∷ 5 ∷ 73 ∷ []

-- a session ended since a write failed, or since memory did not suffice
abbrev pub write_failed : Result Unit WireEnd
write_failed = Err Write

abbrev pub memory_lacked : Result Unit WireEnd
memory_lacked = Err Memory
