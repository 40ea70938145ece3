-- Lists of places, one of each channel.
use Rattle.std.specs.Prelude.{◌≡◌, ℕ, ◌+◌, ◌==◌, ◌&&◌, Bool, List, [], Option, None, Some, bytes_eq, slice_get, slice_index_or}
use Rattle.std.specs.Global.{Vec}
use Rattle.std.specs.Map.{lookup}
use Rattle.pgn_base.specs.declared.note.Delivery.{Delivery}
use Rattle.pgn_due.specs.declared.lists.Topic.{Topic}
use Rattle.pgn_due.specs.Sent.{is_on}
use Rattle.pgn_due.specs.Places.{IsFirst, places}

-- the same database and the same channel
abbrev pub same_topic : Topic → Topic → Bool
same_topic a b = a.db == b.db && bytes_eq a.channel b.channel

-- what a list has, if there is one
abbrev pub items_of : Option (Vec ℕ) → List ℕ
items_of None = []
items_of (Some list) = list.items

-- the list of a channel
abbrev pub list_at : List (Topic × Vec ℕ) → Topic → List ℕ
list_at entries topic = items_of (lookup (same_topic topic) entries)

-- each channel has the places of its notifications
abbrev pub AreLists : List (ℕ × Delivery) → List (Topic × Vec ℕ) → Type 0
AreLists sent entries = (topic : Topic) → list_at entries topic ≡ places (is_on topic.db topic.channel) 0 sent

-- for each notification the place of the next on its channel
abbrev pub AreAfter : List (ℕ × Delivery) → List (Option ℕ) → Type 0
AreAfter sent after = (at : ℕ) (one : ℕ × Delivery) → slice_get sent at ≡ Some one → IsFirst (is_on one.0 one.1.note.channel) sent (at + 1) (slice_index_or after at None)
