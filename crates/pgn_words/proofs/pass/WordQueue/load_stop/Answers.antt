use Rattle.std.proofs.Common.{arith}
use Rattle.pgn_words.proofs.HeadKept.{load_stop_allowed}
use Rattle.pgn_words.proofs.pass.WordQueue.load_stop.Goals as goal

pub load-requires : goal.load-requires
load-requires c = (c.requires.own.table, (let counted = c.args.self.now.counted in omega (arith, counted)), load_stop_allowed _ _ _ _ c.requires.phase)
