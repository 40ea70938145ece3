-- What a client's session did.
use Rattle.std.specs.Prelude.{List, [], ◌∷◌, None}
use Rattle.pgn_base.specs.declared.answers.Tag.TheVariants as tag
use Rattle.pgn_model.specs.declared.item.Item.{Item}
use Rattle.pgn_model.specs.declared.item.Item.TheVariants.{Line, Enlist, Reply}

-- the session listens
abbrev pub listens : List Item
listens = Line 1 ∷ Enlist 3 3 ∷ Reply tag.Listen None ∷ []
