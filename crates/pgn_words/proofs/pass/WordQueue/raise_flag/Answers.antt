use Rattle.std.proofs.Common.{arith, ◌+◌, sym, ap, ◌∙◌}
use Rattle.pgn_hub.specs.Shape.{Shape}
use Rattle.pgn_words.specs.Words.{flags_at}
use Rattle.pgn_words.proofs.FlagKept.{raise_flag_allowed}
use Rattle.pgn_words.proofs.pass.WordQueue.raise_flag.Goals as goal

pub fetch_max-requires : goal.fetch_max-requires
fetch_max-requires c = (c.requires.own.table, (let counted = c.args.self.now.counted in let within = c.word_of_flag-word.ensures.within in omega (arith, counted, within)), raise_flag_allowed _ _ _ _ c.args.flag _ _ c.requires.own.number c.word_of_flag-word.ensures.value c.requires.flag (let told = c.args.pass.now.told_is in let value = c.get.ensures.value in let same = c.from-told.ensures in omega (arith, told, value, same)))

pub returns-clause-view : goal.returns-clause-view
returns-clause-view c = c.fetch_max.ensures.2.view c.args.flag (c.word_of_flag-word.ensures.value ∙ ap (λ (z : Shape). flags_at z + c.args.flag) (sym c.requires.own.setup))
