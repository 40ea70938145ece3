use Rattle.std.proofs.Common.{arith}
use Rattle.pgn_words.proofs.StatusKept.{load_fin_allowed}
use Rattle.pgn_words.proofs.pass.WordQueue.load_fin.Goals as goal

pub load-fin-requires : goal.load-fin-requires
load-fin-requires c = (c.requires.own.table, (let counted = c.args.self.now.counted in omega (arith, counted)), load_fin_allowed _ _ _ _ c.requires.own.number)
