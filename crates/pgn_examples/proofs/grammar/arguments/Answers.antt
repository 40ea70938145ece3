use Rattle.std.specs.Prelude.{codes}
use Rattle.pgn_language.specs.Grammar.{table, cut}
use Rattle.pgn_language.proofs.GrammarLaws.{reading-reads}
use Rattle.pgn_examples.proofs.grammar.arguments.Goals as goal

pub returns-clause-null : goal.returns-clause-null
unfolding table cut
returns-clause-null c = reading-reads (codes "select pg_notify('c', null)")

pub returns-clause-repeated : goal.returns-clause-repeated
unfolding table cut
returns-clause-repeated c = reading-reads (codes "select pg_notify('c', Repeat('ab', 3));")

pub returns-clause-repeated_none : goal.returns-clause-repeated_none
unfolding table cut
returns-clause-repeated_none c = reading-reads (codes "select pg_notify('c', repeat('ab', 00))")

pub returns-clause-repeated_both : goal.returns-clause-repeated_both
unfolding table cut
returns-clause-repeated_both c = reading-reads (codes "select pg_notify(repeat('c', 2), repeat('x', 01))")

pub returns-clause-number_too_great : goal.returns-clause-number_too_great
unfolding table cut
returns-clause-number_too_great c = reading-reads (codes "select pg_notify('c', repeat('', 10001))")

pub returns-clause-greatest_number : goal.returns-clause-greatest_number
unfolding table cut
returns-clause-greatest_number c = reading-reads (codes "select pg_notify('c', repeat('', 10000))")

pub returns-clause-longer_number : goal.returns-clause-longer_number
unfolding table cut
returns-clause-longer_number c = reading-reads (codes "select pg_notify('c', repeat('', 100000000000000000000000))")

pub returns-clause-one_argument : goal.returns-clause-one_argument
unfolding table cut
returns-clause-one_argument c = reading-reads (codes "select pg_notify('c')")

pub returns-clause-word : goal.returns-clause-word
unfolding table cut
returns-clause-word c = reading-reads (codes "select pg_notify(c, 'x')")

pub returns-clause-negative : goal.returns-clause-negative
unfolding table cut
returns-clause-negative c = reading-reads (codes "select pg_notify('c', repeat('x', -1))")

pub returns-clause-quoted_null : goal.returns-clause-quoted_null
unfolding table cut
returns-clause-quoted_null c = reading-reads (codes "select pg_notify(\"NULL\", 'x')")

pub returns-clause-repeated_null : goal.returns-clause-repeated_null
unfolding table cut
returns-clause-repeated_null c = reading-reads (codes "SELECT pg_notify('c', repeat(NULL, 3))")
