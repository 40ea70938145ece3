use Rattle.std.proofs.Common.{◌≡◌, ℕ, suc, ◌-◌, ◌≤◌, List, [], ◌∷◌, length, take, drop, get_or, sym, ap, ◌∙◌, refl, arith}
use Rattle.std.proofs.lemmas.List.{take_all}
use Rattle.pgn_language.specs.Tokens as model
use Rattle.pgn_command.specs.declared.token.Lexeme.{Lexeme}
use Rattle.pgn_requests.specs.Phrases as told
use Rattle.pgn_statements.specs.Lexemes.{meant, all_meant}
use Rattle.pgn_statements.proofs.AskLaws.{IfOk-same}
use Rattle.pgn_statements.proofs.asking.asked.Goals as goal

-- tokens are the first and the others
front : (xs : List Lexeme) (a : Lexeme) → 1 ≤ length xs → a ≡ get_or xs 0 a → all_meant xs ≡ meant a ∷ all_meant (take (length xs - 1) (drop 1 xs))
front [] a l e = absurd (omega arith)
front (x ∷ xs) a l e =
    let all : take (suc (length xs) - 1) xs ≡ xs = take_all (suc (length xs) - 1) xs (omega arith) in
    ap (λ (some : List Lexeme). meant x ∷ all_meant some) (sym all) ∙ ap (λ (b : Lexeme). meant b ∷ all_meant (take (suc (length xs) - 1) xs)) (sym e)

-- there is none
none : (text : List ℕ) (at : ℕ) (xs : List Lexeme) → length xs ≡ 0 → told.unread text at ≡ told.asks text at (all_meant xs)
none text at [] l = refl
none text at (x ∷ xs) l = absurd (omega (arith, l))

pub returns-in-empty : goal.returns-in-empty
returns-in-empty c =
    IfOk-same c.unread.result (told.unread c.args.text.now c.args.at) (told.asks c.args.text.now c.args.at (all_meant c.args.lexemes.now))
    (none c.args.text.now c.args.at c.args.lexemes.now (omega arith)) c.unread.ensures

pub returns-in-len1-up : goal.returns-in-len1-up
returns-in-len1-up c =
    let text : List ℕ = c.args.text.now in
    let lexemes : List Lexeme = c.args.lexemes.now in
    let first : Lexeme = c.first-item.result in
    let rest : List Lexeme = take (length lexemes - 1) (drop 1 lexemes) in
    IfOk-same c.asked_by.result (told.asks text c.args.at (meant first ∷ all_meant rest)) (told.asks text c.args.at (all_meant lexemes))
    (ap (λ (l : List model.Lexeme). told.asks text c.args.at l) (sym (front lexemes first c.in-len1-up.len_at_least c.first-item.is))) c.asked_by.ensures
