use Rattle.std.proofs.Common.{arith, ◌+◌, sym, ap, ◌∙◌}
use Rattle.pgn_hub.specs.Shape.{Shape}
use Rattle.pgn_words.specs.Words.{interests_at}
use Rattle.pgn_words.proofs.InterestKept.{load_interest_allowed}
use Rattle.pgn_words.proofs.pass.WordQueue.load_interest.Goals as goal

pub load-requires : goal.load-requires
load-requires c = (c.requires.own.table, (let counted = c.args.self.now.counted in let within = c.word_of_interest-word.ensures.within in omega (arith, counted, within)), load_interest_allowed _ _ _ _ c.args.seat _ c.word_of_interest-word.ensures.value c.requires.seat c.requires.phase)

pub returns-clause-view : goal.returns-clause-view
returns-clause-view c = c.load.ensures.2.view c.args.seat (c.word_of_interest-word.ensures.value ∙ ap (λ (z : Shape). interests_at z + c.args.seat) (sym c.requires.own.setup))
