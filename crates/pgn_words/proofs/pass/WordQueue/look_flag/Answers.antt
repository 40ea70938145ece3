use Rattle.std.proofs.Common.{arith}
use Rattle.pgn_words.proofs.FlagKept.{look_flag_allowed}
use Rattle.pgn_words.proofs.pass.WordQueue.look_flag.Goals as goal

pub load-found-requires : goal.load-found-requires
load-found-requires c = (c.requires.own.table, (let counted = c.args.self.now.counted in let within = c.word_of_flag-word.ensures.within in omega (arith, counted, within)), look_flag_allowed _ _ _ _ c.args.flag _ c.requires.own.number c.word_of_flag-word.ensures.value c.requires.flag)
