-- Laws of tokens, up to one more than a text may have.
use Rattle.std.proofs.Common.{◌≡◌, ℕ, ◌<◌, ◌≤◌, true, false, inl, inr, List, [], ◌∷◌, ◌++◌, length, take, sym, ap, ◌∙◌, refl, arith, append_assoc, length-append}
use Rattle.std.specs.Prelude.{nat_le}
use Rattle.std.proofs.lemmas.Bool.{cases_lt, false≢true}
use Rattle.std.proofs.lemmas.Bool.Decides.{nat_tests}
use Rattle.std.proofs.lemmas.List.{take_all, take-append-le, length-take, append-nil}
use Rattle.pgn_language.specs.Tokens as model
use Rattle.pgn_language.specs.Grammar.{lexemes_of}
use Rattle.pgn_command.specs.declared.token.Lexeme.{Lexeme}
use Rattle.pgn_command.specs.declared.token.Lexeme.TheVariants as lexeme
use Rattle.pgn_command.specs.Lexing.{shown, EndsAt}
use Rattle.pgn_requests.specs.Phrases.{few}
use Rattle.pgn_statements.specs.Lexemes.{meant, some_of}
use Rattle.pgn_statements.specs.Steps.{ends}

-- where the end is read no token is left
pub end-shown : (at next end : ℕ) (rest : List ℕ) → EndsAt lexeme.End at rest end → lexemes_of (shown lexeme.End at (model.tokens_from next 0 rest)) ≡ []
end-shown at next end rest e = ap (λ (some : List ℕ). lexemes_of (model.tokens_from next 0 some)) e.1

-- the same, where it is read of these tokens
pub ended-none : (one : Lexeme) (at next end : ℕ) (rest : List ℕ) (whole : List model.Token) → whole ≡ shown one at (model.tokens_from next 0 rest) → EndsAt one at rest end → ends one ≡ true → lexemes_of whole ≡ []
ended-none (lexeme.Word text) at next end rest whole w e t = absurd (false≢true t)
ended-none (lexeme.Quoted inside) at next end rest whole w e t = absurd (false≢true t)
ended-none (lexeme.Literal inside) at next end rest whole w e t = absurd (false≢true t)
ended-none (lexeme.Number digits) at next end rest whole w e t = absurd (false≢true t)
ended-none (lexeme.Sign sign) at next end rest whole w e t = absurd (false≢true t)
ended-none lexeme.Wrong at next end rest whole w e t = absurd (false≢true t)
ended-none lexeme.End at next end rest whole w e t = ap lexemes_of w ∙ end-shown at next end rest e

-- where another is read, it and then the others are left
pub token-shown : (one : Lexeme) (at : ℕ) (tokens : List model.Token) → ends one ≡ false → lexemes_of (shown one at tokens) ≡ meant one ∷ lexemes_of tokens
token-shown (lexeme.Word text) at tokens n = refl
token-shown (lexeme.Quoted inside) at tokens n = refl
token-shown (lexeme.Literal inside) at tokens n = refl
token-shown (lexeme.Number digits) at tokens n = refl
token-shown (lexeme.Sign sign) at tokens n = refl
token-shown lexeme.Wrong at tokens n = refl
token-shown lexeme.End at tokens n = absurd (false≢true (sym n))

-- what is left out of the front is left out of the whole
pub take-front : {X : Type 0} (n : ℕ) (front back : List X) → take n (take n front ++ back) ≡ take n (front ++ back)
take-front {X = X} n front back = elim (cases_lt (length front) n) [
  | inl l ↦ let few : length front ≤ n = omega arith in ap (λ (some : List X). take n (some ++ back)) (take_all n front few)
  | inr l ↦
      let size : length (take n front) ≡ n = omega (arith, length-take n front) in
      take-append-le n (take n front) back (omega arith) ∙ take_all n (take n front) (omega arith) ∙ sym (take-append-le n front back l)
]

-- a token behind others
pub put-few : (lexemes : List model.Lexeme) (one : model.Lexeme) → length lexemes ≤ 24 → some_of (lexemes ++ one ∷ []) ≡ lexemes ++ one ∷ []
put-few lexemes one l = take_all 25 (lexemes ++ one ∷ []) (omega (arith, length-append lexemes (one ∷ [])))

-- behind one token more than may be none is kept
pub put-many : (lexemes : List model.Lexeme) (one : model.Lexeme) → 24 < length lexemes → length lexemes ≤ 25 → some_of (lexemes ++ one ∷ []) ≡ lexemes
put-many lexemes one l m = take-append-le 25 lexemes (one ∷ []) (omega arith) ∙ take_all 25 lexemes m

-- the rest of the tokens behind those that were put
pub some-step : (old new rest : List model.Lexeme) (one : model.Lexeme) → new ≡ some_of (old ++ one ∷ []) → some_of (new ++ rest) ≡ some_of (old ++ one ∷ rest)
some-step old new rest one e =
    ap (λ (some : List model.Lexeme). some_of (some ++ rest)) e ∙ take-front 25 (old ++ one ∷ []) rest ∙ ap some_of (append_assoc old (one ∷ []) rest)

-- so many are kept as they are
pub some-all : (new : List model.Lexeme) → length new ≤ 25 → some_of (new ++ []) ≡ new
some-all new l = ap some_of (append-nil new) ∙ take_all 25 new l

-- three parts, one behind the other
pub some-three : (old one two three new second third : List model.Lexeme) → new ≡ some_of (old ++ one) → second ≡ some_of (new ++ two) → third ≡ some_of (second ++ three)
    → third ≡ some_of (old ++ (one ++ two ++ three))
some-three old one two three new second third e f g =
    g ∙ ap (λ (some : List model.Lexeme). some_of (some ++ three)) (f ∙ ap (λ (some : List model.Lexeme). some_of (some ++ two)) e ∙ take-front 25 (old ++ one) two)
    ∙ take-front 25 (old ++ one ++ two) three ∙ ap some_of (ap (λ (some : List model.Lexeme). some ++ three) (append_assoc old one two) ∙ append_assoc old (one ++ two) three)

-- the tokens are few where some of them are, and many where these are
pub few-some : (lexemes some : List model.Lexeme) → some ≡ some_of lexemes → length some ≤ 24 → few lexemes ≡ some
few-some lexemes some e l =
    let taken : length some ≡ length (take 25 lexemes) = ap length e in
    let size : length lexemes ≤ 24 = omega (arith, length-take 25 lexemes) in
    let test : nat_le (length lexemes) 24 ≡ true = grind (arith, nat_tests) in
    rw test (sym (e ∙ take_all 25 lexemes (omega arith)))

-- too many tokens are none
pub few-many : (lexemes some : List model.Lexeme) → some ≡ some_of lexemes → 24 < length some → few lexemes ≡ []
few-many lexemes some e l =
    let taken : length some ≡ length (take 25 lexemes) = ap length e in
    let size : 24 < length lexemes = omega (arith, length-take 25 lexemes) in
    let test : nat_le (length lexemes) 24 ≡ false = grind (arith, nat_tests) in
    rw test refl
