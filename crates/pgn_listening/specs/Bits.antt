-- What a set keeps of the bits of its channels.
use Rattle.std.specs.Prelude.{◌≡◌, ℕ, ◌+◌, ◌==◌, ◌<◌, cond, List, [], ◌∷◌, get_or, length}
use Rattle.pgn_base.specs.Interest.{channel_bit, interest}
use Rattle.pgn_listening.specs.declared.channel_bits.ChannelBits.{ChannelBits}

-- how many of these channels have a bit
abbrev pub with_bit : ℕ → List (List ℕ) → ℕ
with_bit bit [] = 0
with_bit bit (channel ∷ channels) = cond (channel_bit channel == bit) (with_bit bit channels + 1) (with_bit bit channels)

-- the bits that are kept are those of these channels, and so is how many have each
pub record AreBits (channels : List (List ℕ)) (bits : ChannelBits) : Type 0 where
  pub word : bits.word ≡ interest channels
  pub long : length bits.counts ≡ 64
  pub counted : (bit : ℕ) → bit < 64 → get_or bits.counts bit 0 ≡ with_bit bit channels
