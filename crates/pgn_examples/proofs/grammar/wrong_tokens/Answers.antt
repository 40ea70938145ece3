use Rattle.std.specs.Prelude.{codes}
use Rattle.pgn_language.specs.Grammar.{table, cut}
use Rattle.pgn_language.proofs.GrammarLaws.{reading-reads}
use Rattle.pgn_examples.proofs.grammar.wrong_tokens.Goals as goal

pub returns-clause-unclosed_name : goal.returns-clause-unclosed_name
unfolding table cut
returns-clause-unclosed_name c = reading-reads (codes "LISTEN \"a;")

pub returns-clause-unclosed_doubled : goal.returns-clause-unclosed_doubled
unfolding table cut
returns-clause-unclosed_doubled c = reading-reads (codes "LISTEN \"a\"\"")

pub returns-clause-no_character : goal.returns-clause-no_character
unfolding table cut
returns-clause-no_character c = reading-reads (codes "LISTEN \"\"")

pub returns-clause-one_quote : goal.returns-clause-one_quote
unfolding table cut
returns-clause-one_quote c = reading-reads (codes "LISTEN \"\"\"\"")

pub returns-clause-unclosed_literal : goal.returns-clause-unclosed_literal
unfolding table cut
returns-clause-unclosed_literal c = reading-reads (codes "NOTIFY c, 'x''")

pub returns-clause-other_character : goal.returns-clause-other_character
unfolding table cut
returns-clause-other_character c = reading-reads (codes "LISTEN a-b")

pub returns-clause-comment : goal.returns-clause-comment
unfolding table cut
returns-clause-comment c = reading-reads (codes "LISTEN a--b")

pub returns-clause-comment_only : goal.returns-clause-comment_only
unfolding table cut
returns-clause-comment_only c = reading-reads (codes "LISTEN -- x")

pub returns-clause-comment_in_quotes : goal.returns-clause-comment_in_quotes
unfolding table cut
returns-clause-comment_in_quotes c = reading-reads (codes "LISTEN \"a--b\"")

pub returns-clause-dollar_first : goal.returns-clause-dollar_first
unfolding table cut
returns-clause-dollar_first c = reading-reads (codes "LISTEN $a")

pub returns-clause-dollar_inside : goal.returns-clause-dollar_inside
unfolding table cut
returns-clause-dollar_inside c = reading-reads (codes "LISTEN a$1_")

pub returns-clause-digit_first : goal.returns-clause-digit_first
unfolding table cut
returns-clause-digit_first c = reading-reads (codes "LISTEN 1a")

pub returns-clause-quoted_key_word : goal.returns-clause-quoted_key_word
unfolding table cut
returns-clause-quoted_key_word c = reading-reads (codes "\"LISTEN\" a")

pub returns-clause-earlier_token : goal.returns-clause-earlier_token
unfolding table cut
returns-clause-earlier_token c = reading-reads (codes "COMMIT c 'x")

pub returns-clause-one_dash : goal.returns-clause-one_dash
unfolding table cut
returns-clause-one_dash c = reading-reads (codes "-")

pub returns-clause-dash_for_name : goal.returns-clause-dash_for_name
unfolding table cut
returns-clause-dash_for_name c = reading-reads (codes "LISTEN -")

pub returns-clause-at_sign_first : goal.returns-clause-at_sign_first
unfolding table cut
returns-clause-at_sign_first c = reading-reads (codes "LISTEN @a")

pub returns-clause-dot_inside : goal.returns-clause-dot_inside
unfolding table cut
returns-clause-dot_inside c = reading-reads (codes "LISTEN a.b")
