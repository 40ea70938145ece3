-- What the tokens of the code are.
use denote.Ref.{Bor}
use Rattle.std.specs.Prelude.{◌≡◌, ℕ, ◌+◌, ◌<◌, List, map, take, length, slice_index, Option, None, Some, MatchOption}
use Rattle.pgn_language.specs.Tokens as model
use Rattle.pgn_language.specs.Grammar.{lexemes_of}
use Rattle.pgn_command.specs.Texts.{single}
use Rattle.pgn_requests.specs.declared.limits.TheConstants.{TOKENS_MAX}
use Rattle.pgn_requests.specs.Phrases.{spread, spread_at}
use Rattle.pgn_command.specs.declared.token.Lexeme.{Lexeme}
use Rattle.pgn_command.specs.declared.token.Lexeme.TheVariants as lexeme

-- the token
abbrev pub meant : Lexeme → model.Lexeme
meant (lexeme.Word text) = model.Word text.now
meant (lexeme.Quoted inside) = model.Quoted (single inside.quote inside.raw.now)
meant (lexeme.Literal inside) = model.Literal (single inside.quote inside.raw.now)
meant (lexeme.Number digits) = model.Number digits.now
meant (lexeme.Sign sign) = model.Sign sign
meant lexeme.Wrong = model.Wrong
meant lexeme.End = model.Wrong

-- the tokens
abbrev pub all_meant : List Lexeme → List model.Lexeme
all_meant lexemes = map meant lexemes

-- the code's tokens that are left are these, or nothing is where these are nothing
abbrev pub GoesOn : Option (Bor (List Lexeme)) → Option (List model.Lexeme) → Type 0
GoesOn result told = MatchOption result (told ≡ None) (λ rest. told ≡ Some (all_meant rest.now))

-- the tokens up to one more than a text may have
abbrev pub some_of : List model.Lexeme → List model.Lexeme
some_of lexemes = take (TOKENS_MAX + 1) lexemes

-- a `=` stands there before each literal, or none does
abbrev pub IsEqualsAt : List ℕ → Option ℕ → Type 0
IsEqualsAt text None = spread text ≡ lexemes_of (model.tokens text)
IsEqualsAt text (Some at) = (spread text ≡ spread_at at text) × (at < length text) × (slice_index text at ≡ 61)
