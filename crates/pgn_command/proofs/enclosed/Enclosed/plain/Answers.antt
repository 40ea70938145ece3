use Rattle.std.proofs.Common.{sym, arith}
use Rattle.pgn_command.proofs.QuoteLaws.{no-shorter}
use Rattle.pgn_command.proofs.enclosed.Enclosed.plain.Goals as goal

pub returns-then-self-eq0 : goal.returns-then-self-eq0
returns-then-self-eq0 c =
    let s = c.args.self.now in
    sym (no-shorter s.quote s.raw.now s.spelled (omega (arith, s.counted, c.if-self-eq0.true)))
