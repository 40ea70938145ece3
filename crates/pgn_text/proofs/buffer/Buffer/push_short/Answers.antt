use Rattle.std.proofs.Common.{◌≡◌, ◌+◌, ◌/◌, ◌∙◌, ap, append_assoc, arith, decimal, length, length-append}
use Rattle.std.proofs.lemmas.Fmt.{length-decimal-le}
use Rattle.itoa.proofs.Decimal.{decimal_pair}
use Rattle.pgn_text.proofs.buffer.Buffer.push_short.Goals as goal

pub push_pair-requires-clause-fits : goal.push_pair-requires-clause-fits
push_pair-requires-clause-fits c =
    let long : length c.push_first-2.new.self ≡ length c.args.self.now + length (decimal (c.args.number / 100)) = ap length c.push_first-2.ensures ∙ length-append _ _ in
    let few = length-decimal-le 2 (c.args.number / 100) (omega arith) (omega arith) (omega arith) in omega arith

pub returns : goal.returns
returns c = rw (decimal_pair c.args.number c.if-number-lt100.false (omega arith), ← append_assoc, ← c.push_first-2.ensures) c.push_pair.ensures
