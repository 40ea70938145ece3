-- What contracts see of a listening set, and what holds of its parts.
use Rattle.std.specs.Prelude.{◌≡◌, ℕ, ◌+◌, ◌≤◌, Bool, false, cond, List, [], ◌∷◌, Option, Some, None, bytes_eq, length}
use Rattle.std.specs.Map.{lookup}
use Rattle.pgn_base.specs.Names.{has_name}

-- the channels in order of listening, and how many more may be put in without memory
pub record Listening : Type 0 where
  pub channels : List (List ℕ)
  pub room : ℕ

-- the channels of places, of which some are empty, in order
abbrev pub listed : List (Option (List ℕ)) → List (List ℕ)
listed [] = []
listed (None ∷ places) = listed places
listed (Some channel ∷ places) = channel ∷ listed places

-- the channel stands in a place
abbrev pub holds : List ℕ → Option (List ℕ) → Bool
holds channel None = false
holds channel (Some other) = bytes_eq channel other

-- where a channel stands first in places that are counted from a number on
abbrev pub place_from : ℕ → List ℕ → List (Option (List ℕ)) → Option ℕ
place_from at channel [] = None
place_from at channel (place ∷ places) = cond (holds channel place) (Some at) (place_from (at + 1) channel places)

-- no channel stands twice
abbrev pub AreOnce : List (List ℕ) → Type 0
AreOnce [] = Unit {0}
AreOnce (channel ∷ channels) = (has_name channels channel ≡ false) × AreOnce channels

-- the entries of an index are the channels of places, each with its place
pub record AreThere (places : List (Option (List ℕ))) (entries : List (List ℕ × ℕ)) : Type 0 where
  pub found : (channel : List ℕ) → lookup (bytes_eq channel) entries ≡ place_from 0 channel places
  pub counted : length entries ≡ length (listed places)

-- an index has the channels of places, in which each stands once, and both have the room
pub record IsIndexed (places : List (Option (List ℕ))) (capacity : ℕ) (entries : List (List ℕ × ℕ)) (spare : ℕ) (room : ℕ) : Type 0 where
  pub there : AreThere places entries
  pub once : AreOnce (listed places)
  pub fits : length places + room ≤ capacity
  pub indexed : room ≤ spare
