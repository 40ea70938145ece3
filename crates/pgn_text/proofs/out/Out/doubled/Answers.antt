use Rattle.std.proofs.Common.{sym, arith}
use Rattle.pgn_text.proofs.PutsLaws.{Puts-same}
use Rattle.pgn_text.proofs.DoublingLaws.{doubled-none}
use Rattle.pgn_text.proofs.out.Out.doubled.Goals as goal

pub returns-in-None : goal.returns-in-None
returns-in-None g c = Puts-same (sym (doubled-none c.args.quote c.args.text.now (λ k. c.in-None.ensures k (omega arith)))) c.text.ensures
