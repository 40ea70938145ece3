use Rattle.std.proofs.Common.{arith}
use Rattle.pgn_words.proofs.LockKept.{drop_lock_allowed, none_waits}
use Rattle.pgn_words.proofs.pass.WordQueue.drop_lock.Goals as goal

pub store-requires : goal.store-requires
store-requires c = (c.requires.own.table, (let counted = c.args.self.now.counted in omega (arith, counted)), drop_lock_allowed _ _ _ c.args.pass.now.seat.me c.requires.phase (none_waits c.args.pass.now.seat.me.0.verdicts c.requires.decided))
