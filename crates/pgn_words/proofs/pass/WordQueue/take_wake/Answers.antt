use Rattle.std.proofs.Common.{arith}
use Rattle.pgn_words.proofs.WakeKept.{take_wake_allowed}
use Rattle.pgn_words.proofs.pass.WordQueue.take_wake.Goals as goal

pub swap-found-requires : goal.swap-found-requires
swap-found-requires c = (c.requires.own.table, (let counted = c.args.self.now.counted in let within = c.word_of_wake-word.ensures.within in omega (arith, counted, within)), take_wake_allowed _ _ _ _ _ (let word = c.word_of_wake-word.ensures.value in let session = c.args.pass.now.session_is in let value = c.get.ensures.value in omega (arith, word, session, value)) c.requires.own.number c.requires.listens)
