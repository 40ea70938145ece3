use Rattle.std.proofs.Common.{arith, ◌+◌, sym, ap, ◌∙◌}
use Rattle.pgn_hub.specs.Shape.{Shape}
use Rattle.pgn_words.specs.Words.{wakes_at}
use Rattle.pgn_words.proofs.WakeKept.{set_wake_allowed}
use Rattle.pgn_words.proofs.pass.WordQueue.set_wake.Goals as goal

pub fetch_or-requires : goal.fetch_or-requires
fetch_or-requires c = (c.requires.own.table, (let counted = c.args.self.now.counted in let within = c.word_of_wake-word.ensures.within in omega (arith, counted, within)), set_wake_allowed _ _ _ _ c.args.seat _ c.word_of_wake-word.ensures.value c.requires.seat c.requires.phase c.requires.needed)

pub returns-clause-view : goal.returns-clause-view
returns-clause-view c = c.fetch_or.ensures.2.view c.args.seat (c.word_of_wake-word.ensures.value ∙ ap (λ (z : Shape). wakes_at z + c.args.seat) (sym c.requires.own.setup))
