use Rattle.std.proofs.Common.{length, ap, arith}
use Rattle.pgn_statements.proofs.ShortLaws.{cut-few}
use Rattle.pgn_statements.proofs.accepting.accepted.Goals as goal

pub becomes-requires : goal.becomes-requires
becomes-requires c = omega (arith, ap length c.cut.ensures, cut-few c.args.value.now c.utf8.value)

pub returns-in-ClientEncoding : goal.returns-in-ClientEncoding
returns-in-ClientEncoding c = rw c.in-ClientEncoding.is c.encoding.ensures
