-- What comes of sessions: items, some at a time.
use Rattle.std.specs.Prelude.{ℕ, ◌==◌, cond, List, [], flat_map}
use Rattle.pgn_model.specs.declared.item.Item.{Item}
use Rattle.pgn_outlet.specs.declared.came.Came as came
use Rattle.pgn_outlet.specs.declared.hand.Hand as hand

-- items of a session that were pushed together
abbrev pub Came : Type 0
Came = came.Came (List Item)

-- what a pass knows by which they are pushed, or taken
abbrev pub Hand : Type 0
Hand = hand.Hand (List Item)

-- the items of session n in one of them
abbrev pub items_in : ℕ → Came → List Item
items_in n came = cond (came.session == n) came.what []

-- the items of session n among them, in order
abbrev pub items_of : ℕ → List Came → List Item
items_of n cames = flat_map (items_in n) cames
