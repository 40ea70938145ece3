-- Which channels a reader may care for, as bits. Two channels may have one bit, so the bits tell only for which transactions a reader
-- need not look.
use Rattle.std.specs.Prelude.{◌≡◌, ℕ, ◌==◌, Bool, not, List, map, All}
use Rattle.std.specs.Int.{bit_at}
use Rattle.std.specs.Int.RustNames.{bit_and}
use Rattle.pgn_base.specs.Interest.{channel_bit}
use Rattle.pgn_base.specs.declared.note.Note.{Note}

-- the channels of notifications
abbrev pub channels_of : List Note → List (List ℕ)
channels_of notes = map (λ note. note.channel) notes

-- two numbers have a bit in common
abbrev pub meets : ℕ → ℕ → Bool
meets a b = not (bit_and a b == 0)

-- a number has the bit of each channel
abbrev pub Covers : ℕ → List (List ℕ) → Type 0
Covers word channels = All (λ channel. bit_at word (channel_bit channel) ≡ 1) channels
