use Rattle.std.proofs.Common.{arith}
use Rattle.pgn_words.proofs.LookKept.{load_tail_allowed}
use Rattle.pgn_words.proofs.pass.WordQueue.load_tail.Goals as goal

pub load-tail-requires : goal.load-tail-requires
load-tail-requires c = (c.requires.own.table, (let counted = c.args.self.now.counted in omega (arith, counted)), load_tail_allowed _ _ _ _ c.requires.phase c.requires.look)
