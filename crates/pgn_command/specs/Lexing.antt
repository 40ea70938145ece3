-- What the tokens of the code are.
use Rattle.std.specs.Prelude.{◌≡◌, ℕ, ◌+◌, Bool, true, false, List, [], ◌∷◌, length}
use Rattle.std.specs.Char.{is_ascii_digit}
use Rattle.std.specs.Str.Parse.{IsNumeral}
use Rattle.pgn_language.specs.Tokens as model
use Rattle.pgn_command.specs.Texts.{single}
use Rattle.pgn_command.specs.declared.bytes.Start.{Start}
use Rattle.pgn_command.specs.declared.bytes.Start.TheVariants as start
use Rattle.pgn_command.specs.declared.token.Lexeme.{Lexeme}
use Rattle.pgn_command.specs.declared.token.Lexeme.TheVariants as lexeme

-- what a byte begins
abbrev pub kind_of : Start → model.Kind
kind_of start.Word = model.AWord
kind_of start.Number = model.ANumber
kind_of start.Sign = model.ASign
kind_of start.Quoted = model.AQuoted
kind_of start.Literal = model.ALiteral
kind_of start.Nothing = model.ANothing

-- a comment stands at the front
abbrev pub starts_comment : List ℕ → Bool
starts_comment [] = false
starts_comment (b ∷ bytes) = model.begins_comment b bytes

-- neither a blank nor a comment stands at the front
abbrev pub IsStart : List ℕ → Type 0
IsStart [] = Unit {0}
IsStart (b ∷ bytes) = (model.is_blank b ≡ false) × (model.begins_comment b bytes ≡ false)

-- the end of a line is where nothing is left of it
abbrev pub EndsAt : Lexeme → ℕ → List ℕ → ℕ → Type 0
EndsAt lexeme.End at rest end = (at ≡ end) × (rest ≡ [])
EndsAt lexeme at rest end = Unit {0}

-- what stands in a line with this token at its front, before the rest of the tokens
abbrev pub shown : Lexeme → ℕ → List model.Token → List model.Token
shown (lexeme.Word text) at tokens = record { lexeme = model.Word text.now; at = at } ∷ tokens
shown (lexeme.Quoted inside) at tokens = record { lexeme = model.Quoted (single inside.quote inside.raw.now); at = at } ∷ tokens
shown (lexeme.Literal inside) at tokens = record { lexeme = model.Literal (single inside.quote inside.raw.now); at = at } ∷ tokens
shown (lexeme.Number digits) at tokens = record { lexeme = model.Number digits.now; at = at } ∷ tokens
shown (lexeme.Sign sign) at tokens = record { lexeme = model.Sign sign; at = at } ∷ tokens
shown lexeme.Wrong at tokens = record { lexeme = model.Wrong; at = at } ∷ tokens
shown lexeme.End at tokens = tokens

-- what is said of the first byte itself
abbrev pub tells : Start → ℕ → Type 0
tells start.Word b = model.begins_word b ≡ true
tells start.Number b = is_ascii_digit b ≡ true
tells start.Sign b = model.is_sign b ≡ true
tells start.Quoted b = b ≡ 34
tells start.Literal b = b ≡ 39
tells start.Nothing b = Unit {0}

-- the bytes begin such a token
abbrev pub Starts : Start → List ℕ → Type 0
Starts start [] = ⊥
Starts start (b ∷ bytes) = (kind_of start ≡ model.kind b bytes) × tells start b

-- nothing but a wrong token stands here
abbrev pub IsStuck : ℕ → List ℕ → Type 0
IsStuck at rest = let wrong : model.Token = record { lexeme = model.Wrong; at = at } in model.tokens_from at 0 rest ≡ wrong ∷ []

-- a number is written in digits
abbrev pub HasDigits : Lexeme → Type 0
HasDigits (lexeme.Number digits) = IsNumeral 10 digits.now
HasDigits lexeme = Unit {0}

-- a token is read, and these bytes are left from that byte of the line on
pub record IsRead (lexeme : Lexeme) (at : ℕ) (rest : List ℕ) (next : ℕ) (left : List ℕ) : Type 0 where
  pub tokens : model.tokens_from at 0 rest ≡ shown lexeme at (model.tokens_from next 0 left)
  pub same_end : next + length left ≡ at + length rest
  pub end : EndsAt lexeme at left (at + length rest)
  pub digits : HasDigits lexeme
