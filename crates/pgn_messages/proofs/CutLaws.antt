-- The notices of a text's tokens, one after another.
use Rattle.std.proofs.Common.{◌≡◌, ℕ, true, List, [], ◌++◌, sym, ap, ◌∙◌, refl, append_assoc, append-nil}
use Rattle.std.specs.Prelude.{flat_map}
use Rattle.std.proofs.lemmas.Bool.{false≢true}
use Rattle.pgn_language.specs.Tokens as model
use Rattle.pgn_command.specs.declared.token.Lexeme.{Lexeme}
use Rattle.pgn_command.specs.declared.token.Lexeme.TheVariants as lexeme
use Rattle.pgn_command.specs.Lexing.{shown, EndsAt}
use Rattle.pgn_messages.specs.Cutting.{ends, notice_of}
use Rattle.pgn_messages.specs.Served.{token_notice}

-- the notice of a token, and those of the tokens behind it
one-and-others : (one : Lexeme) (at : ℕ) (tokens : List model.Token) → flat_map token_notice (shown one at tokens) ≡ notice_of one ++ flat_map token_notice tokens
one-and-others (lexeme.Word text) at tokens = refl
one-and-others (lexeme.Quoted inside) at tokens = refl
one-and-others (lexeme.Literal inside) at tokens = refl
one-and-others (lexeme.Number digits) at tokens = refl
one-and-others (lexeme.Sign sign) at tokens = refl
one-and-others lexeme.Wrong at tokens = refl
one-and-others lexeme.End at tokens = refl

-- where the end is read no notice is left
pub none-left : (here all : List ℕ) (one : Lexeme) (at next end : ℕ) (rest : List ℕ) (whole : List model.Token) → whole ≡ shown one at (model.tokens_from next 0 rest) → EndsAt one at rest end → ends one ≡ true
    → here ++ flat_map token_notice whole ≡ all → here ≡ all
none-left here all (lexeme.Word text) at next end rest whole w e t h = absurd (false≢true t)
none-left here all (lexeme.Quoted inside) at next end rest whole w e t h = absurd (false≢true t)
none-left here all (lexeme.Literal inside) at next end rest whole w e t h = absurd (false≢true t)
none-left here all (lexeme.Number digits) at next end rest whole w e t h = absurd (false≢true t)
none-left here all (lexeme.Sign sign) at next end rest whole w e t h = absurd (false≢true t)
none-left here all lexeme.Wrong at next end rest whole w e t h = absurd (false≢true t)
none-left here all lexeme.End at next end rest whole w e t h =
    let none : whole ≡ [] = w ∙ ap (λ (l : List ℕ). model.tokens_from next 0 l) e.1 in
    sym (append-nil here) ∙ ap (λ (l : List model.Token). here ++ flat_map token_notice l) (sym none) ∙ h

-- where another is read and its notice is put, those of the others are left
pub notice-next : (old new all : List ℕ) (one : Lexeme) (at : ℕ) (whole rest : List model.Token) → whole ≡ shown one at rest → new ≡ old ++ notice_of one
    → old ++ flat_map token_notice whole ≡ all → new ++ flat_map token_notice rest ≡ all
notice-next old new all one at whole rest w put h =
    ap (λ (l : List ℕ). l ++ flat_map token_notice rest) put
    ∙ append_assoc old (notice_of one) (flat_map token_notice rest)
    ∙ ap (λ (l : List ℕ). old ++ l) (sym (one-and-others one at rest))
    ∙ ap (λ (l : List model.Token). old ++ flat_map token_notice l) (sym w) ∙ h
