use Rattle.std.specs.Prelude.{codes}
use Rattle.pgn_language.specs.Grammar.{table, cut}
use Rattle.pgn_language.proofs.GrammarLaws.{reading-reads}
use Rattle.pgn_examples.proofs.grammar.savepoint_word.Goals as goal

pub returns-clause-release : goal.returns-clause-release
unfolding table cut
returns-clause-release c = reading-reads (codes "RELEASE SAVEPOINT")

pub returns-clause-release_ended : goal.returns-clause-release_ended
unfolding table cut
returns-clause-release_ended c = reading-reads (codes "RELEASE SAVEPOINT ;")

pub returns-clause-release_key : goal.returns-clause-release_key
unfolding table cut
returns-clause-release_key c = reading-reads (codes "RELEASE SAVEPOINT Savepoint")

pub returns-clause-release_quoted : goal.returns-clause-release_quoted
unfolding table cut
returns-clause-release_quoted c = reading-reads (codes "RELEASE \"SAVEPOINT\" s")

pub returns-clause-release_two : goal.returns-clause-release_two
unfolding table cut
returns-clause-release_two c = reading-reads (codes "RELEASE SAVEPOINT a b")

pub returns-clause-release_none : goal.returns-clause-release_none
unfolding table cut
returns-clause-release_none c = reading-reads (codes "RELEASE")

pub returns-clause-back_key : goal.returns-clause-back_key
unfolding table cut
returns-clause-back_key c = reading-reads (codes "ROLLBACK TO SAVEPOINT work")

pub returns-clause-back_none : goal.returns-clause-back_none
unfolding table cut
returns-clause-back_none c = reading-reads (codes "ROLLBACK TRANSACTION TO")

pub returns-clause-back_to : goal.returns-clause-back_to
unfolding table cut
returns-clause-back_to c = reading-reads (codes "ROLLBACK TO to")

pub returns-clause-abort_to : goal.returns-clause-abort_to
unfolding table cut
returns-clause-abort_to c = reading-reads (codes "ABORT TO s")

pub returns-clause-savepoint_twice : goal.returns-clause-savepoint_twice
unfolding table cut
returns-clause-savepoint_twice c = reading-reads (codes "SAVEPOINT SAVEPOINT s")
