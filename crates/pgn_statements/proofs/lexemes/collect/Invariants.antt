use Rattle.std.proofs.Common.{◌≡◌, ◌≤◌, ◌++◌, length}
use Rattle.pgn_language.specs.Tokens.{tokens, tokens_from}
use Rattle.pgn_language.specs.Grammar.{lexemes_of}
use Rattle.pgn_statements.specs.Lexemes.{all_meant, some_of}
use Rattle.pgn_statements.proofs.lexemes.collect.Given as goal

abbrev pub invariant-tokens : goal.invariant-tokens
invariant-tokens l = record {
  few : length l.lexemes.items ≤ 25;
  all : some_of (all_meant l.lexemes.items ++ lexemes_of (tokens_from l.lexer.at 0 l.lexer.rest.now)) ≡ some_of (all_meant l.fn.lexemes.items ++ lexemes_of (tokens l.fn.text));
}

abbrev pub decreases-tokens : goal.decreases-tokens
decreases-tokens l = length (tokens_from l.lexer.at 0 l.lexer.rest.now)
