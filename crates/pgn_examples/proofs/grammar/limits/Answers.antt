use Rattle.std.specs.Prelude.{codes, [], ◌∷◌, ◌++◌}
use Rattle.pgn_language.specs.Grammar.{table, cut}
use Rattle.std.proofs.Common.{refl}
use Rattle.pgn_examples.proofs.LongLiterals.{long-literal, short-literal}
use Rattle.pgn_language.proofs.GrammarLaws.{reading-reads}
use Rattle.pgn_examples.proofs.grammar.limits.Goals as goal

pub returns-clause-null_channel : goal.returns-clause-null_channel
unfolding table cut
returns-clause-null_channel c = reading-reads (codes "select pg_notify(NULL, 'x')")

pub returns-clause-empty_channel : goal.returns-clause-empty_channel
unfolding table cut
returns-clause-empty_channel c = reading-reads (codes "select pg_notify('', repeat('x', 8000))")

pub returns-clause-long_channel : goal.returns-clause-long_channel
unfolding table cut
returns-clause-long_channel c = reading-reads (codes "select pg_notify(repeat('c', 64), repeat('x', 8000))")

pub returns-clause-longest_channel : goal.returns-clause-longest_channel
unfolding table cut
returns-clause-longest_channel c = reading-reads (codes "select pg_notify(repeat('c', 63), '')")

pub returns-clause-long_payload : goal.returns-clause-long_payload
unfolding table cut
returns-clause-long_payload c = reading-reads (codes "select pg_notify('c', repeat('x', 8000))")

pub returns-clause-long_literal : goal.returns-clause-long_literal
returns-clause-long_literal c = long-literal 8000 refl

pub returns-clause-longest_literal : goal.returns-clause-longest_literal
returns-clause-longest_literal c = short-literal 7999 refl

pub returns-clause-cut_word : goal.returns-clause-cut_word
unfolding table cut
returns-clause-cut_word c = reading-reads (codes "LISTEN AAAAAAAAAAAAAAAAAAAAAAAAAAAAAAAAAAAAAAAAAAAAAAAAAAAAAAAAAAAAAAAA")

pub returns-clause-cut_quoted : goal.returns-clause-cut_quoted
unfolding table cut
returns-clause-cut_quoted c = reading-reads (codes "LISTEN \"AAAAAAAAAAAAAAAAAAAAAAAAAAAAAAAAAAAAAAAAAAAAAAAAAAAAAAAAAAAAAAA\"")

pub returns-clause-not_folded : goal.returns-clause-not_folded
unfolding table cut
returns-clause-not_folded c = reading-reads (codes "LISTEN A" ++ (195 ∷ 137 ∷ []))

pub returns-clause-whole_character : goal.returns-clause-whole_character
unfolding table cut
returns-clause-whole_character c = reading-reads (codes "LISTEN aaaaaaaaaaaaaaaaaaaaaaaaaaaaaaaaaaaaaaaaaaaaaaaaaaaaaaaaaaaaaa" ++ (195 ∷ 169 ∷ []))

pub returns-clause-last_character : goal.returns-clause-last_character
unfolding table cut
returns-clause-last_character c = reading-reads (codes "LISTEN aaaaaaaaaaaaaaaaaaaaaaaaaaaaaaaaaaaaaaaaaaaaaaaaaaaaaaaaaaaaa" ++ (195 ∷ 169 ∷ 195 ∷ 169 ∷ []))

pub returns-clause-three_bytes : goal.returns-clause-three_bytes
unfolding table cut
returns-clause-three_bytes c = reading-reads (codes "LISTEN aaaaaaaaaaaaaaaaaaaaaaaaaaaaaaaaaaaaaaaaaaaaaaaaaaaaaaaaaaaaa" ++ (226 ∷ 130 ∷ 172 ∷ []))

pub returns-clause-last_three_bytes : goal.returns-clause-last_three_bytes
unfolding table cut
returns-clause-last_three_bytes c = reading-reads (codes "LISTEN aaaaaaaaaaaaaaaaaaaaaaaaaaaaaaaaaaaaaaaaaaaaaaaaaaaaaaaaaaaa" ++ (226 ∷ 130 ∷ 172 ∷ 97 ∷ []))
