use Rattle.std.proofs.Common.{arith}
use Rattle.pgn_words.proofs.TakenKept.{take_in_allowed}
use Rattle.pgn_words.proofs.pass.WordQueue.take_in.Goals as goal

pub join_seat-requires : goal.join_seat-requires
join_seat-requires c = (c.requires.own.table, c.requires.other.table, c.requires.other.bare, (let counted = c.args.self.now.counted in omega (arith, counted)), take_in_allowed _ _ _ _ _ c.requires.own.number c.requires.other.number c.requires.free c.requires.out)
