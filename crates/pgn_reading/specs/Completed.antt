-- What the lines of a trace show of its items, and what the walk adds to them.
use Rattle.std.specs.Prelude.{List, [], ◌∷◌, ◌++◌, fold, flat_map}
use Rattle.pgn_base.specs.declared.note.Note.{Note}
use Rattle.pgn_model.specs.declared.item.Item.{Item}
use Rattle.pgn_model.specs.declared.item.Item.TheVariants.{Publish, QueueFull, Channels}
use Rattle.pgn_model.specs.Walk.{State, Owed, Queueing, Listing, after_item}

-- what the lines of an item show: of a commit not its notifications, and nothing of the rows of no channel
abbrev pub seen_of : Item → List Item
seen_of (Publish xid notes) = Publish xid [] ∷ []
seen_of (QueueFull full notes) = QueueFull full [] ∷ []
seen_of (Channels []) = []
seen_of item = item ∷ []

-- what the lines of items show
abbrev pub seen : List Item → List Item
seen items = flat_map seen_of items

-- the notifications that are to be published
abbrev pub notes_of : Owed → List Note
notes_of (Queueing actions notes ending) = notes
notes_of owed = []

-- an item that was read, with the notifications that are to be published where it shows a commit
abbrev pub with_owed : Owed → Item → Item
with_owed owed (Publish xid none) = Publish xid (notes_of owed)
with_owed owed (QueueFull full none) = QueueFull full (notes_of owed)
with_owed owed item = item

-- the rows of no channel, where they come next: they have no line
abbrev pub without_line : Owed → List Item
without_line (Listing [] ending) = Channels [] ∷ []
without_line owed = []

-- the state in which the next line is judged
abbrev pub ready : State → State
ready s = fold after_item s (without_line s.owed)

-- an item that was read, as the walk takes it
abbrev pub whole : State → Item → Item
whole s item = with_owed (ready s).owed item

-- the state after an item that was read
abbrev pub stepped : State → Item → State
stepped s item = after_item (ready s) (whole s item)

-- the state after items that were read
abbrev pub walked : State → List Item → State
walked s items = fold stepped s items

-- items that were read from a state on, with what the walk adds
abbrev pub completed : State → List Item → List Item
completed s [] = []
completed s (item ∷ items) = without_line s.owed ++ whole s item ∷ completed (stepped s item) items
