use Rattle.pgn_words.proofs.OpenedLaws.{AreMade}
use Rattle.pgn_words.proofs.pass.WordQueue.open.Given as goal

abbrev pub invariant-loop-k : goal.invariant-loop-k
invariant-loop-k l = AreMade l.queue l.first l.passes.items l.k
