-- Where the first zero byte of a text stands.
use Rattle.std.specs.Prelude.{◌≡◌, ℕ, ◌+◌, ◌<◌, ◌==◌, slice_index, false, Bool, List, [], ◌∷◌, Option, None, Some, option_map, if◌then◌else◌}

-- whether a byte is zero
abbrev pub is_zero : ℕ → Bool
is_zero byte = byte == 0

-- the least place of a zero byte, and none where there is none
abbrev pub plain_zero : List ℕ → Option ℕ
plain_zero [] = None
plain_zero (byte ∷ bytes) = if is_zero byte then Some 0 else option_map (λ place. place + 1) (plain_zero bytes)

-- no byte before a place is zero
abbrev pub HasNoZeroBefore : ℕ → List ℕ → Type 0
HasNoZeroBefore place bytes = (k : ℕ) → k < place → is_zero (slice_index bytes k) ≡ false
