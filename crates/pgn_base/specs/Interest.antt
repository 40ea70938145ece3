-- Which channels there are, as one number: a bit for each channel. Two channels may have one bit.
use Rattle.std.specs.Prelude.{ℕ, ◌%◌, ◌^◌, List, fold, sum}
use Rattle.std.specs.Int.RustNames.{bit_or}

-- the bit of a channel: the sum of its bytes, in 64 bits
abbrev pub channel_bit : List ℕ → ℕ
channel_bit channel = sum channel % 64

-- a number with the bit of one more channel
abbrev pub with_channel : ℕ → List ℕ → ℕ
with_channel word channel = bit_or word (2 ^ channel_bit channel)

-- the bits of channels
abbrev pub interest : List (List ℕ) → ℕ
interest channels = fold with_channel 0 channels
