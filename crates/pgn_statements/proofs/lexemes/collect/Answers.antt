use Rattle.std.proofs.Common.{◌≡◌, ◌+◌, ◌≤◌, List, [], ◌∷◌, ◌++◌, length, sym, ap, ◌∙◌, arith}
use Rattle.std.proofs.lemmas.List.{length-map}
use Rattle.pgn_language.specs.Tokens as model
use Rattle.pgn_language.specs.Grammar.{lexemes_of}
use Rattle.pgn_statements.specs.Lexemes.{meant, all_meant, some_of}
use Rattle.pgn_statements.proofs.LexemeLaws.{ended-none, token-shown, some-step, some-all}
use Rattle.pgn_statements.proofs.lexemes.collect.Goals as goal

pub returns-then-is_end-clause-all : goal.returns-then-is_end-clause-all
returns-then-is_end-clause-all c =
    let read = c.next-token.result in
    let next = c.next-token.new.self in
    let lexer = c.tokens.lexer in
    let here = all_meant c.tokens.lexemes.items in
    let none : lexemes_of (model.tokens_from lexer.at 0 lexer.rest.now) ≡ [] =
    ended-none read.lexeme read.at next.at (lexer.at + length lexer.rest.now) next.rest.now (model.tokens_from lexer.at 0 lexer.rest.now) c.next-token.ensures.tokens c.next-token.ensures.end (sym c.is_end.ensures ∙ c.if-is_end.true) in
    let few : length here ≤ 25 = omega (arith, length-map c.tokens.lexemes.items meant, c.tokens.invariant.few) in
    sym (some-all here few) ∙ ap (λ (l : List model.Lexeme). some_of (here ++ l)) (sym none) ∙ c.tokens.invariant.all

pub tokens-preserved : goal.tokens-preserved
tokens-preserved c =
    let read = c.next-token.result in
    let next = c.next-token.new.self in
    let lexer = c.tokens.lexer in
    let here = all_meant c.tokens.lexemes.items in
    let rest = model.tokens_from next.at 0 next.rest.now in
    let tokens : lexemes_of (model.tokens_from lexer.at 0 lexer.rest.now) ≡ meant read.lexeme ∷ lexemes_of rest =
    ap lexemes_of c.next-token.ensures.tokens ∙ token-shown read.lexeme read.at rest (sym c.is_end.ensures ∙ c.if-is_end.false) in
    record {
      few = c.in_ok-put.ensures.few;
      all = some-step here (all_meant c.put.new.lexemes.items) (lexemes_of rest) (meant read.lexeme) c.in_ok-put.ensures.all
          ∙ ap (λ (l : List model.Lexeme). some_of (here ++ l)) (sym tokens) ∙ c.tokens.invariant.all;
    }
