use Rattle.std.proofs.Common.{arith}
use Rattle.pgn_words.proofs.WakeKept.{wake_look_allowed}
use Rattle.pgn_words.proofs.pass.WordQueue.wake_look.Goals as goal

pub load-requires : goal.load-requires
load-requires c = (c.requires.own.table, (let counted = c.args.self.now.counted in let within = c.word_of_position-word.ensures.within in omega (arith, counted, within)), wake_look_allowed _ _ _ _ c.args.seat _ c.word_of_position-word.ensures.value c.requires.seat c.requires.phase c.requires.unseen)

pub returns-clause-looked : goal.returns-clause-looked
returns-clause-looked c =
    rw c.position_of.ensures (c.load.ensures.2.looked c.args.seat c.word_of_position-word.ensures.value)
