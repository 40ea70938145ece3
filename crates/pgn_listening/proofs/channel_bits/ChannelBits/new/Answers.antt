use Rattle.std.proofs.Common.{refl}
use Rattle.std.proofs.lemmas.List.{get_or-replicate}
use Rattle.pgn_listening.proofs.BitsLaws.{no-bits}
use Rattle.pgn_listening.proofs.channel_bits.ChannelBits.new.Goals as goal

pub returns : goal.returns
returns c = no-bits _ refl refl (λ i below. get_or-replicate 64 i 0 0 below)
