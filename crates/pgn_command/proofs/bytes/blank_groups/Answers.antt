use Rattle.std.proofs.Common.{◌≡◌, ℕ, ◌+◌, ◌-◌, ◌≤◌, true, take, drop, length, sym, ap, ◌∙◌, arith}
use Rattle.std.specs.List.{list_all, prefix_len}
use Rattle.pgn_language.specs.Tokens.{is_blank}
use Rattle.pgn_command.proofs.GapLaws.{front-group}
use Rattle.pgn_command.proofs.bytes.blank_groups.Goals as goal

pub loop-end-preserved : goal.loop-end-preserved
loop-end-preserved c =
    let end : ℕ = c.loop-end.end in
    let size : 16 ≡ end + 16 - end = omega arith in
    let group : list_all is_blank (take 16 (drop end c.args.bytes.now)) ≡ true = ap (λ (n : ℕ). list_all is_blank (take n (drop end c.args.bytes.now))) size ∙ sym c.are_blank.ensures ∙ c.if-are_blank.true in
    let within : end + 16 ≤ length c.args.bytes.now = omega (arith, c.loop-end-test.true, c.loop-end.invariant.within) in
    let step : prefix_len is_blank (drop end c.args.bytes.now) ≡ 16 + prefix_len is_blank (drop (end + 16) c.args.bytes.now) = front-group is_blank c.args.bytes.now end 16 within group in
    record { within = within; blanks = omega (arith, c.loop-end.invariant.blanks, step) }
