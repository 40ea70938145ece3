use Rattle.std.specs.Prelude.{codes}
use Rattle.pgn_language.specs.Grammar.{table, cut}
use Rattle.pgn_language.proofs.GrammarLaws.{reading-reads}
use Rattle.pgn_examples.proofs.grammar.lines_and_answers.Goals as goal

pub returns-clause-no_name : goal.returns-clause-no_name
unfolding table cut
returns-clause-no_name c = reading-reads (codes "LISTEN")

pub returns-clause-number_for_name : goal.returns-clause-number_for_name
unfolding table cut
returns-clause-number_for_name c = reading-reads (codes "LISTEN 5")

pub returns-clause-no_comma : goal.returns-clause-no_comma
unfolding table cut
returns-clause-no_comma c = reading-reads (codes "NOTIFY c 'x'")

pub returns-clause-no_literal : goal.returns-clause-no_literal
unfolding table cut
returns-clause-no_literal c = reading-reads (codes "NOTIFY c,")

pub returns-clause-escaped_literal : goal.returns-clause-escaped_literal
unfolding table cut
returns-clause-escaped_literal c = reading-reads (codes "NOTIFY c, E'x'")

pub returns-clause-quoted_name : goal.returns-clause-quoted_name
unfolding table cut
returns-clause-quoted_name c = reading-reads (codes "listen \"A\"\"b\" ; -- now")

pub returns-clause-savepoint_as_name : goal.returns-clause-savepoint_as_name
unfolding table cut
returns-clause-savepoint_as_name c = reading-reads (codes "Rollback To Savepoint")

pub returns-clause-folded_name : goal.returns-clause-folded_name
unfolding table cut
returns-clause-folded_name c = reading-reads (codes "notify Foo, 'it''s'")

pub returns-clause-only_a_quote : goal.returns-clause-only_a_quote
unfolding table cut
returns-clause-only_a_quote c = reading-reads (codes "notify c, ''''")

pub returns-clause-plain_backslash : goal.returns-clause-plain_backslash
unfolding table cut
returns-clause-plain_backslash c = reading-reads (codes "NOTIFY c, '\\'")

pub returns-clause-two_semicolons : goal.returns-clause-two_semicolons
unfolding table cut
returns-clause-two_semicolons c = reading-reads (codes "LISTEN a;;")

pub returns-clause-two_commands : goal.returns-clause-two_commands
unfolding table cut
returns-clause-two_commands c = reading-reads (codes "LISTEN a; LISTEN b")

pub returns-clause-work_and_transaction : goal.returns-clause-work_and_transaction
unfolding table cut
returns-clause-work_and_transaction c = reading-reads (codes "BEGIN WORK TRANSACTION")

pub returns-clause-null_for_literal : goal.returns-clause-null_for_literal
unfolding table cut
returns-clause-null_for_literal c = reading-reads (codes "NOTIFY c, NULL")

pub returns-clause-start_alone : goal.returns-clause-start_alone
unfolding table cut
returns-clause-start_alone c = reading-reads (codes "START")

pub returns-clause-no_open_bracket : goal.returns-clause-no_open_bracket
unfolding table cut
returns-clause-no_open_bracket c = reading-reads (codes "SELECT pg_listening_channels)")
