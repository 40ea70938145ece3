use Rattle.std.specs.Prelude.{◌∷◌, ◌++◌, codes}
use Rattle.pgn_language.specs.Grammar.{table, cut}
use Rattle.pgn_language.proofs.GrammarLaws.{reading-reads}
use Rattle.pgn_examples.proofs.grammar.blank_lines.Goals as goal

pub returns-clause-blanks : goal.returns-clause-blanks
unfolding table cut
returns-clause-blanks c = reading-reads (codes " \t\r")

pub returns-clause-comment : goal.returns-clause-comment
unfolding table cut
returns-clause-comment c = reading-reads (codes "-- LISTEN c")

pub returns-clause-semicolon : goal.returns-clause-semicolon
unfolding table cut
returns-clause-semicolon c = reading-reads (codes " ; -- x")

pub returns-clause-two : goal.returns-clause-two
unfolding table cut
returns-clause-two c = reading-reads (codes "; ;")

pub returns-clause-feed_and_vertical_tab : goal.returns-clause-feed_and_vertical_tab
unfolding table cut
returns-clause-feed_and_vertical_tab c = reading-reads (codes "LISTEN" ++ 12 ∷ 11 ∷ codes "a")
