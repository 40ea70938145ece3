use Rattle.std.proofs.Common.{◌≡◌, ℕ, ◌+◌, ◌-◌, ◌^◌, ◌==◌, ◌∙◌, Bool, true, false, ap, sym, cond, get_or, set, arith}
use Rattle.std.specs.Int.RustNames.{bit_xor}
use Rattle.std.proofs.lemmas.Bool.Decides.{nat_tests}
use Rattle.pgn_base.specs.Interest.{channel_bit}
use Rattle.pgn_listening.proofs.BitsLaws.{bits-less}
use Rattle.pgn_listening.proofs.channel_bits.ChannelBits.take_out.Goals as goal

pub returns-then-left-eq0 : goal.returns-then-left-eq0
returns-then-left-eq0 c = λ channels bits once has.
    let old = c.args.self.now in
    let here = c.channel_bit-bit.ensures.value in
    let left : ℕ = get_or old.counts c.channel_bit-bit.result 0 - 1 in
    let same : get_or old.counts c.channel_bit-bit.result 0 ≡ get_or old.counts (channel_bit c.args.channel.now) 0 = ap (λ (k : ℕ). get_or old.counts k 0) here in
    let one : left + 1 ≡ get_or old.counts (channel_bit c.args.channel.now) 0 = omega (arith, same, c.requires.there) in
    let none : (left == 0) ≡ true = grind (arith, nat_tests, c.if-left-eq0.true) in
    bits-less channels c.args.channel.now old _ left bits once has one
    (ap (λ (k : ℕ). set old.counts k left) here)
    (ap (λ (m : ℕ). bit_xor old.word m) (c.mask_of.ensures ∙ ap (λ (k : ℕ). 2 ^ k) here)
    ∙ sym (ap (λ (b : Bool). cond b (bit_xor old.word (2 ^ channel_bit c.args.channel.now)) old.word) none))

pub returns-else-left-eq0 : goal.returns-else-left-eq0
returns-else-left-eq0 c = λ channels bits once has.
    let old = c.args.self.now in
    let here = c.channel_bit-bit.ensures.value in
    let left : ℕ = get_or old.counts c.channel_bit-bit.result 0 - 1 in
    let same : get_or old.counts c.channel_bit-bit.result 0 ≡ get_or old.counts (channel_bit c.args.channel.now) 0 = ap (λ (k : ℕ). get_or old.counts k 0) here in
    let one : left + 1 ≡ get_or old.counts (channel_bit c.args.channel.now) 0 = omega (arith, same, c.requires.there) in
    let some : (left == 0) ≡ false = grind (arith, nat_tests, c.if-left-eq0.false) in
    bits-less channels c.args.channel.now old _ left bits once has one
    (ap (λ (k : ℕ). set old.counts k left) here)
    (sym (ap (λ (b : Bool). cond b (bit_xor old.word (2 ^ channel_bit c.args.channel.now)) old.word) some))
