use Rattle.std.proofs.Common.{arith}
use Rattle.pgn_words.proofs.WalkKept.{load_base_allowed}
use Rattle.pgn_words.proofs.pass.WordQueue.load_base.Goals as goal

pub load-tail-requires : goal.load-tail-requires
load-tail-requires c = (c.requires.own.table, (let counted = c.args.self.now.counted in omega (arith, counted)), load_base_allowed _ _ _ _ c.requires.own.number c.requires.joining)
