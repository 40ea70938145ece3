use Rattle.std.proofs.Common.{arith}
use Rattle.pgn_words.proofs.WalkKept.{store_valid_allowed}
use Rattle.pgn_words.proofs.pass.WordQueue.store_valid.Goals as goal

pub store-requires : goal.store-requires
store-requires c = (c.requires.own.table, (let counted = c.args.self.now.counted in let word = c.own_position-word.ensures in let within = c.requires.own.within in let session = c.args.pass.now.session_is in omega (arith, counted, word, within, session)), store_valid_allowed _ _ _ _ _ _ (let word = c.own_position-word.ensures in let session = c.args.pass.now.session_is in omega (arith, word, session)) c.requires.own.number c.requires.based (let value = c.word_of-position.ensures in let base = c.args.pass.now.base_is in let at = c.args.pass.now.at_is in omega (arith, value, base, at)))
