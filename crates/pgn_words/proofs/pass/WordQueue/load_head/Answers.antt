use Rattle.std.proofs.Common.{arith}
use Rattle.pgn_words.proofs.HeadKept.{load_head_allowed}
use Rattle.pgn_words.proofs.pass.WordQueue.load_head.Goals as goal

pub load-requires : goal.load-requires
load-requires c = (c.requires.own.table, (let counted = c.args.self.now.counted in omega (arith, counted)), load_head_allowed _ _ _ _ c.requires.phase)
