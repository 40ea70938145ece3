use Rattle.std.proofs.Common.{◌≡◌, ◌%◌, take, sum}
use Rattle.pgn_base.proofs.channels.channel_bit.Given as goal

abbrev pub invariant-loop-byte : goal.invariant-loop-byte
invariant-loop-byte l = l.sum ≡ sum (take l.byte-index l.channel) % 64
