use Rattle.std.proofs.Common.{◌+◌, ◌++◌, length, sym, ◌∙◌}
use Rattle.std.specs.Prelude.{flat_map}
use Rattle.pgn_language.specs.Tokens as model
use Rattle.pgn_messages.specs.Served.{token_notice}
use Rattle.pgn_messages.proofs.CutLaws.{none-left, notice-next}
use Rattle.pgn_messages.proofs.cutting.put_notices.Goals as goal

pub returns-then-is_end : goal.returns-then-is_end
returns-then-is_end c =
    let read = c.next-token.result in
    let next = c.next-token.new.self in
    let lexer = c.tokens.lexer in
    none-left c.tokens.bytes (c.args.bytes.now ++ flat_map token_notice (model.tokens c.args.text.now)) read.lexeme read.at next.at (lexer.at + length lexer.rest.now) next.rest.now (model.tokens_from lexer.at 0 lexer.rest.now)
    c.next-token.ensures.tokens c.next-token.ensures.end (sym c.is_end.ensures ∙ c.if-is_end.true) c.tokens.invariant

pub tokens-preserved : goal.tokens-preserved
tokens-preserved c =
    let read = c.next-token.result in
    let next = c.next-token.new.self in
    let lexer = c.tokens.lexer in
    notice-next c.tokens.bytes c.put_notice.new.bytes (c.args.bytes.now ++ flat_map token_notice (model.tokens c.args.text.now)) read.lexeme read.at (model.tokens_from lexer.at 0 lexer.rest.now)
    (model.tokens_from next.at 0 next.rest.now) c.next-token.ensures.tokens c.in_ok-put_notice.ensures c.tokens.invariant
