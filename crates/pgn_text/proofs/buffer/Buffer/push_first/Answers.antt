use Rattle.std.proofs.lemmas.Fmt.{decimal_digit}
use Rattle.itoa.proofs.Decimal.{decimal_two}
use Rattle.pgn_text.proofs.buffer.Buffer.push_first.Goals as goal

pub returns-then-number-lt10 : goal.returns-then-number-lt10
returns-then-number-lt10 c = rw (decimal_digit c.args.number c.if-number-lt10.true) c.push.ensures

pub returns : goal.returns
returns c = rw (decimal_two c.args.number c.if-number-lt10.false c.requires.small) c.push_pair.ensures
