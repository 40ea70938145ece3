use Rattle.std.proofs.Common.{arith}
use Rattle.pgn_words.proofs.LookKept.{store_tail_allowed}
use Rattle.pgn_words.proofs.pass.WordQueue.store_tail.Goals as goal

pub store-requires : goal.store-requires
store-requires c = (c.requires.own.table, (let counted = c.args.self.now.counted in omega (arith, counted)), store_tail_allowed _ _ _ _ c.args.mark c.args.pos _ c.requires.phase c.requires.least c.requires.low c.word_of.ensures)
