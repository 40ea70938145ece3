use Rattle.std.proofs.Common.{arith}
use Rattle.pgn_words.proofs.WalkKept.{begin_walk_allowed}
use Rattle.pgn_words.proofs.pass.WordQueue.begin_walk.Goals as goal

pub load-fin-requires : goal.load-fin-requires
load-fin-requires c = (c.requires.own.table, (let counted = c.args.self.now.counted in omega (arith, counted)), begin_walk_allowed _ _ _ _ c.requires.own.number c.requires.phase c.requires.listens)
