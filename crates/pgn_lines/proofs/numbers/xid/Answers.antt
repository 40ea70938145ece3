use Rattle.std.proofs.Common.{◌≡◌, arith}
use Rattle.pgn_lines.proofs.FieldLaws.{same_number}
use Rattle.pgn_lines.proofs.numbers.xid.Goals as goal

pub returns-else-number-ge-FIRST_XID : goal.returns-else-number-ge-FIRST_XID
returns-else-number-ge-FIRST_XID c = λ n h e.
    let same : c.in_ok-number.number ≡ n = same_number c.in_ok-number.number n c.args.text.now (omega (arith, c.in_ok-number.ensures.0)) (omega (arith, h)) c.in_ok-number.ensures.1 e in
    omega arith
