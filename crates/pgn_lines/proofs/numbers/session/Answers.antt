use Rattle.std.proofs.Common.{◌≡◌, arith}
use Rattle.pgn_lines.proofs.FieldLaws.{same_number}
use Rattle.pgn_lines.proofs.numbers.session.Goals as goal

pub returns-else-number-ge1 : goal.returns-else-number-ge1
returns-else-number-ge1 c = λ n h e.
    let same : c.in_ok-number.number ≡ n = same_number c.in_ok-number.number n c.args.text.now (omega (arith, c.in_ok-number.ensures.0)) (omega (arith, h)) c.in_ok-number.ensures.1 e in
    omega (arith, c.else-number-ge1.either)
