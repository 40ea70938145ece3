use Rattle.std.proofs.Common.{arith}
use Rattle.pgn_words.proofs.SecondKept.{store_stop_allowed}
use Rattle.pgn_words.proofs.pass.WordQueue.store_stop.Goals as goal

pub store-requires : goal.store-requires
store-requires c = (c.requires.own.table, (let counted = c.args.self.now.counted in omega (arith, counted)), store_stop_allowed _ _ _ _ _ c.requires.phase c.requires.free)
