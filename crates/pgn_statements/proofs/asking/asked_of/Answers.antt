use Rattle.std.proofs.Common.{◌≡◌, ℕ, ◌<◌, ◌≤◌, List, [], ◌++◌, length, sym, ap, ◌∙◌, subst, arith, rules}
use Rattle.std.proofs.lemmas.List.{length-map}
use Rattle.pgn_language.specs.Tokens as model
use Rattle.pgn_command.specs.declared.token.Lexeme.{Lexeme}
use Rattle.pgn_requests.specs.Phrases as told
use Rattle.pgn_statements.specs.Lexemes.{meant, all_meant, some_of}
use Rattle.pgn_statements.specs.Calls.{CallIsValid}
use Rattle.pgn_statements.proofs.CallLaws.{spread-valid}
use Rattle.pgn_statements.proofs.AskLaws.{IfOk-same}
use Rattle.pgn_statements.proofs.LexemeLaws.{few-some, few-many}
use Rattle.pgn_statements.proofs.asking.asked_of.Goals as goal

pub returns-then-len-gt-TOKENS_MAX : goal.returns-then-len-gt-TOKENS_MAX
returns-then-len-gt-TOKENS_MAX c =
    let text : List ℕ = c.args.text.now in
    let some : List Lexeme = c.collect_spread.new.lexemes.items in
    let empty : c.new-lexemes.result.items ≡ [] = search rules in
    let all : all_meant some ≡ some_of (told.spread text) = c.in_ok-collect_spread.ensures ∙ ap (λ (l : List Lexeme). some_of (all_meant l ++ told.spread text)) empty in
    let many : 24 < length (all_meant some) = omega (arith, length-map some meant, c.len.ensures, c.if-len-gt-TOKENS_MAX.true) in
    IfOk-same c.unread.result (told.unread text c.args.at) (told.asked_of text c.args.at) (ap (λ (l : List model.Lexeme). told.calls_or_asks text c.args.at l) (sym (few-many (told.spread text) (all_meant some) all many))) c.unread.ensures

pub calls_or_asks-requires : goal.calls_or_asks-requires
calls_or_asks-requires c =
    let text : List ℕ = c.args.text.now in
    let some : List Lexeme = c.collect_spread.new.lexemes.items in
    let empty : c.new-lexemes.result.items ≡ [] = search rules in
    let all : all_meant some ≡ some_of (told.spread text) = c.in_ok-collect_spread.ensures ∙ ap (λ (l : List Lexeme). some_of (all_meant l ++ told.spread text)) empty in
    let few : length (all_meant some) ≤ 24 = omega (arith, length-map some meant, c.len.ensures, c.if-len-gt-TOKENS_MAX.false) in
    subst CallIsValid (few-some (told.spread text) (all_meant some) all few ∙ ap all_meant (sym c.as_slice.ensures.value)) (spread-valid text c.utf8.text c.requires.no_nul)

pub returns : goal.returns
returns c =
    let text : List ℕ = c.args.text.now in
    let some : List Lexeme = c.collect_spread.new.lexemes.items in
    let empty : c.new-lexemes.result.items ≡ [] = search rules in
    let all : all_meant some ≡ some_of (told.spread text) = c.in_ok-collect_spread.ensures ∙ ap (λ (l : List Lexeme). some_of (all_meant l ++ told.spread text)) empty in
    let few : length (all_meant some) ≤ 24 = omega (arith, length-map some meant, c.len.ensures, c.if-len-gt-TOKENS_MAX.false) in
    IfOk-same c.calls_or_asks.result (told.calls_or_asks text c.args.at (all_meant c.as_slice.result.now)) (told.asked_of text c.args.at)
    (ap (λ (l : List Lexeme). told.calls_or_asks text c.args.at (all_meant l)) c.as_slice.ensures.value
    ∙ ap (λ (l : List model.Lexeme). told.calls_or_asks text c.args.at l) (sym (few-some (told.spread text) (all_meant some) all few))) c.calls_or_asks.ensures
