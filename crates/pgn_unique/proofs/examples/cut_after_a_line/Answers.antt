use Rattle.pgn_unique.proofs.ExampleLaws.{cut-in_a_trace, cut-before_the_end}
use Rattle.pgn_unique.proofs.examples.cut_after_a_line.Goals as goal

pub returns-clause-in_a_trace : goal.returns-clause-in_a_trace
returns-clause-in_a_trace c = cut-in_a_trace

pub returns-clause-before_the_end : goal.returns-clause-before_the_end
returns-clause-before_the_end c = cut-before_the_end
