use Rattle.std.proofs.Common.{◌≡◌, ℕ, ◌+◌, List, [], ◌∷◌, ◌++◌, take, drop, sym, ap, ◌∙◌, arith}
use Rattle.std.specs.Prelude.{codes}
use Rattle.std.proofs.lemmas.Str.{IsCharBoundary-after_ascii}
use Rattle.pgn_language.specs.Tokens as model
use Rattle.pgn_language.specs.Grammar.{lexemes_of}
use Rattle.pgn_command.proofs.QuoteLaws.{from_start}
use Rattle.pgn_requests.specs.Phrases.{spread}
use Rattle.pgn_statements.specs.Lexemes.{all_meant, some_of}
use Rattle.pgn_statements.proofs.AskLaws.{OnOk-map}
use Rattle.pgn_statements.proofs.LexemeLaws.{some-three}
use Rattle.pgn_statements.proofs.lexemes.collect_spread.Goals as goal

pub range_from-requires : goal.range_from-requires
range_from-requires c = λ _. IsCharBoundary-after_ascii c.args.text.now c.in-Some.at c.utf8.text c.in-Some.ensures.1 (omega (arith, c.in-Some.ensures.2))

pub returns : goal.returns
returns c =
    let text : List ℕ = c.args.text.now in
    let at : ℕ = c.in-Some.at in
    let old : List model.Lexeme = all_meant c.args.lexemes.now.items in
    let one : List model.Lexeme = lexemes_of (model.tokens c.range.result.now) in
    let to : List model.Lexeme = model.Word (codes "to") ∷ [] in
    let three : List model.Lexeme = lexemes_of (model.tokens c.range_from.result.now) in
    let before : one ≡ lexemes_of (model.tokens (take at text)) = ap (λ (l : List ℕ). lexemes_of (model.tokens l)) (c.range.ensures.value ∙ from_start at text) in
    let after : three ≡ lexemes_of (model.tokens (drop (at + 1) text)) = ap (λ (l : List ℕ). lexemes_of (model.tokens l)) c.range_from.ensures.value in
    let whole : one ++ to ++ three ≡ spread text =
    ap (λ (l : List model.Lexeme). l ++ to ++ three) before ∙ ap (λ (l : List model.Lexeme). lexemes_of (model.tokens (take at text)) ++ to ++ l) after ∙ sym c.in-Some.ensures.0 in
    OnOk-map c.collect-3.result (all_meant c.collect-3.new.lexemes.items ≡ some_of (all_meant c.put.new.lexemes.items ++ three)) (all_meant c.collect-3.new.lexemes.items ≡ some_of (old ++ spread text))
    (λ g. some-three old one to three (all_meant c.collect-2.new.lexemes.items) (all_meant c.put.new.lexemes.items) (all_meant c.collect-3.new.lexemes.items) c.in_ok-collect.ensures.all c.in_ok-put.ensures.all g
    ∙ ap (λ (l : List model.Lexeme). some_of (old ++ l)) whole) c.collect-3.ensures.all
