-- What the bytes of a text do to where the next of them stands.
use Rattle.std.specs.Prelude.{ℕ, Bool, true, false, cond, ◌&&◌, ◌||◌, ◌==◌, ◌-◌, List, [], ◌∷◌, slice_index}
use Rattle.pgn_requests.specs.declared.mode.Mode.{Mode}
use Rattle.pgn_requests.specs.declared.mode.Mode.TheVariants.{Comment, Star, Open}

-- in how many others the comment stands
abbrev pub depth_of : Mode → ℕ
depth_of (Comment depth) = depth
depth_of (Star depth) = depth
depth_of (Open depth) = depth
depth_of mode = 0

-- a byte after another is a line feed, or the two begin a comment
abbrev pub is_break : ℕ → ℕ → Bool
is_break before b = b == 10 || ((before == 47 && b == 42) || (before == 45 && b == 45))

-- no line feed stands and no comment begins in bytes that follow this one
abbrev pub is_calm : ℕ → List ℕ → Bool
is_calm before [] = true
is_calm before (b ∷ bytes) = cond (is_break before b) false (is_calm b bytes)

-- the byte before one of some, which stand behind this one
abbrev pub byte_before : ℕ → List ℕ → ℕ → ℕ
byte_before before bytes at = cond (at == 0) before (slice_index bytes (at - 1))
