use Rattle.std.proofs.Common.{◌≡◌, ◌==◌, ℕ, false, sym, ap, ◌∙◌}
use Rattle.std.specs.Int.{bit_at}
use Rattle.pgn_base.specs.Interest.{channel_bit, interest as interest_of}
use Rattle.pgn_journal.proofs.InterestLaws.{interest-covers}
use Rattle.pgn_wordhub.proofs.PassingLaws.{none_has, not_true}
use Rattle.pgn_wordhub.proofs.reading.Reader.is_apart.Goals as goal

pub returns-clause-apart : goal.returns-clause-apart
returns-clause-apart c apart note sender stands long =
    let channels = c.args.self.now.set.now.channels in
    let bit = c.channel_bit_at-bit.ensures.bit note sender stands long in
    let none : (bit_at (interest_of channels) (channel_bit note.channel) == 1) ≡ false =
    ap (λ (n : ℕ). bit_at (interest_of channels) n == 1) (sym bit) ∙ ap (λ (n : ℕ). bit_at n c.channel_bit_at-bit.result == 1) (sym c.args.self.now.bits) ∙ sym c.has_bit.ensures ∙ not_true c.has_bit.result apart in
    none_has (interest_of channels) channels note.channel (interest-covers channels) none
