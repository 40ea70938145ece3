use Rattle.std.proofs.Common.{arith}
use Rattle.pgn_words.proofs.WalkKept.{mark_joining_allowed}
use Rattle.pgn_words.proofs.pass.WordQueue.mark_joining.Goals as goal

pub store-requires : goal.store-requires
store-requires c = (c.requires.own.table, (let counted = c.args.self.now.counted in let word = c.own_position-word.ensures in let within = c.requires.own.within in let session = c.args.pass.now.session_is in omega (arith, counted, word, within, session)), mark_joining_allowed _ _ _ _ _ (let word = c.own_position-word.ensures in let session = c.args.pass.now.session_is in omega (arith, word, session)) c.requires.own.number c.requires.out)
