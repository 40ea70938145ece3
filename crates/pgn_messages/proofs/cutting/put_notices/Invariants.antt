use Rattle.std.proofs.Common.{◌≡◌, ◌++◌, length}
use Rattle.std.specs.Prelude.{flat_map}
use Rattle.pgn_language.specs.Tokens.{tokens, tokens_from}
use Rattle.pgn_messages.specs.Served.{token_notice}
use Rattle.pgn_messages.proofs.cutting.put_notices.Given as goal

abbrev pub invariant-tokens : goal.invariant-tokens
invariant-tokens l = l.bytes ++ flat_map token_notice (tokens_from l.lexer.at 0 l.lexer.rest.now) ≡ l.fn.bytes ++ flat_map token_notice (tokens l.fn.text)

abbrev pub decreases-tokens : goal.decreases-tokens
decreases-tokens l = length (tokens_from l.lexer.at 0 l.lexer.rest.now)
