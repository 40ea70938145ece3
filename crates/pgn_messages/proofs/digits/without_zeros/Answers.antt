use Rattle.std.proofs.Common.{◌≡◌, ℕ, ◌+◌, ◌-◌, take, get_or, sym, ap, ◌∙◌, arith}
use Rattle.pgn_messages.specs.Server.{without_zeros}
use Rattle.pgn_messages.proofs.DigitsLaws.{zero_goes}
use Rattle.pgn_messages.proofs.digits.without_zeros.Goals as goal

pub loop-end-preserved : goal.loop-end-preserved
loop-end-preserved c =
    let digits = c.args.digits.now in
    let end : ℕ = c.loop-end.end - 1 in
    let place : end + 1 ≡ c.loop-end.end = omega arith in
    let zero : get_or digits end 0 ≡ 48 = c.if-digits-end-eq48.true in record {
      within = omega arith;
      value = sym (zero_goes digits end (omega arith) zero) ∙ ap (λ (n : ℕ). without_zeros (take n digits)) place ∙ c.loop-end.invariant.value;
    }
