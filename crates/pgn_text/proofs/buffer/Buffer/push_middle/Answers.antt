use Rattle.std.proofs.Common.{◌≡◌, ◌+◌, ◌/◌, ◌∙◌, ap, append_assoc, arith, decimal, length, length-append}
use Rattle.std.proofs.lemmas.Fmt.{length-decimal-le}
use Rattle.itoa.proofs.Decimal.{decimal_four}
use Rattle.pgn_text.proofs.buffer.Buffer.push_middle.Goals as goal

pub push_pair-requires-clause-fits : goal.push_pair-requires-clause-fits
push_pair-requires-clause-fits c =
    let long : length c.push_short.new.self ≡ length c.args.self.now + length (decimal (c.args.number / 10000)) = ap length c.push_short.ensures ∙ length-append _ _ in
    let few = length-decimal-le 4 (c.args.number / 10000) (omega arith) (omega arith) (omega arith) in omega arith

pub push_pair-requires-2-clause-fits : goal.push_pair-requires-2-clause-fits
push_pair-requires-2-clause-fits c =
    let long : length c.push_short.new.self ≡ length c.args.self.now + length (decimal (c.args.number / 10000)) = ap length c.push_short.ensures ∙ length-append _ _ in
    let longer : length c.push_pair.new.self ≡ length c.push_short.new.self + 2 = ap length c.push_pair.ensures ∙ length-append _ _ in
    let few = length-decimal-le 4 (c.args.number / 10000) (omega arith) (omega arith) (omega arith) in omega arith

pub returns : goal.returns
returns c = rw (decimal_four c.args.number c.requires.large (omega arith), ← append_assoc, ← append_assoc, ← c.push_short.ensures, ← c.push_pair.ensures) c.push_pair-2.ensures
