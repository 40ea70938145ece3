use Rattle.std.proofs.Common.{ℕ, ◌+◌, ◌^◌, ◌∙◌, ap, get_or, set}
use Rattle.std.specs.Int.RustNames.{bit_or}
use Rattle.pgn_listening.proofs.BitsLaws.{bits-put}
use Rattle.pgn_listening.proofs.channel_bits.ChannelBits.put.Goals as goal

pub returns : goal.returns
returns c = λ channels bits.
    let old = c.args.self.now in
    bits-put channels c.args.channel.now old _ bits
    (ap (λ (m : ℕ). bit_or old.word m) (c.mask_of.ensures ∙ ap (λ (k : ℕ). 2 ^ k) c.channel_bit-bit.ensures.value))
    (ap (λ (k : ℕ). set old.counts k (get_or old.counts k 0 + 1)) c.channel_bit-bit.ensures.value)
