use Rattle.std.specs.Prelude.{codes}
use Rattle.pgn_language.specs.Grammar.{table, cut}
use Rattle.pgn_language.proofs.GrammarLaws.{reading-reads}
use Rattle.pgn_examples.proofs.grammar.each_command.Goals as goal

pub returns-clause-empty : goal.returns-clause-empty
unfolding table cut
returns-clause-empty c = reading-reads (codes "")

pub returns-clause-begin : goal.returns-clause-begin
unfolding table cut
returns-clause-begin c = reading-reads (codes "BEGIN")

pub returns-clause-start : goal.returns-clause-start
unfolding table cut
returns-clause-start c = reading-reads (codes "Start Transaction;")

pub returns-clause-commit : goal.returns-clause-commit
unfolding table cut
returns-clause-commit c = reading-reads (codes "commit work")

pub returns-clause-commit_by_end : goal.returns-clause-commit_by_end
unfolding table cut
returns-clause-commit_by_end c = reading-reads (codes "END")

pub returns-clause-rollback : goal.returns-clause-rollback
unfolding table cut
returns-clause-rollback c = reading-reads (codes "ROLLBACK TRANSACTION ;")

pub returns-clause-rollback_by_abort : goal.returns-clause-rollback_by_abort
unfolding table cut
returns-clause-rollback_by_abort c = reading-reads (codes "abort")

pub returns-clause-savepoint : goal.returns-clause-savepoint
unfolding table cut
returns-clause-savepoint c = reading-reads (codes "SAVEPOINT s")

pub returns-clause-rollback_to : goal.returns-clause-rollback_to
unfolding table cut
returns-clause-rollback_to c = reading-reads (codes "ROLLBACK WORK TO SAVEPOINT S;")

pub returns-clause-release : goal.returns-clause-release
unfolding table cut
returns-clause-release c = reading-reads (codes "RELEASE s")

pub returns-clause-listen : goal.returns-clause-listen
unfolding table cut
returns-clause-listen c = reading-reads (codes "LISTEN c")

pub returns-clause-unlisten : goal.returns-clause-unlisten
unfolding table cut
returns-clause-unlisten c = reading-reads (codes "UNLISTEN \"C d\"")

pub returns-clause-unlisten_all : goal.returns-clause-unlisten_all
unfolding table cut
returns-clause-unlisten_all c = reading-reads (codes "unlisten*")

pub returns-clause-notify : goal.returns-clause-notify
unfolding table cut
returns-clause-notify c = reading-reads (codes "NOTIFY c")

pub returns-clause-pg_notify : goal.returns-clause-pg_notify
unfolding table cut
returns-clause-pg_notify c = reading-reads (codes "SELECT pg_notify('C', 'x')")

pub returns-clause-channels : goal.returns-clause-channels
unfolding table cut
returns-clause-channels c = reading-reads (codes "SELECT pg_listening_channels();")

pub returns-clause-usage : goal.returns-clause-usage
unfolding table cut
returns-clause-usage c = reading-reads (codes "select PG_NOTIFICATION_QUEUE_USAGE ( )")
