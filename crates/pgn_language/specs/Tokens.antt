-- The tokens of a line: what they are, where each begins, and which tokens a text has.
use Rattle.std.specs.Prelude.{ℕ, zero, suc, ◌+◌, Bool, true, false, cond, ◌||◌, ◌&&◌, ◌==◌, nat_le, List, [], ◌∷◌, length, Option, None, Some, option_map, take_while}
use Rattle.std.specs.Char.{is_ascii_alphabetic, is_ascii_digit}

-- what a token is, with its text
pub data Lexeme : Type 0 where
  -- a word, as it is written
  Word : (text : List ℕ) → Lexeme
  -- a quoted identifier, without its quotes and with each quote inside it once
  Quoted : (text : List ℕ) → Lexeme
  -- a literal, without its quotes and with each quote inside it once
  Literal : (text : List ℕ) → Lexeme
  -- a number, as it is written
  Number : (digits : List ℕ) → Lexeme
  -- one of the signs * , ( ) ;
  Sign : (byte : ℕ) → Lexeme
  -- what is none of these
  Wrong : Lexeme

-- a token, and the byte of the line, from 0, where it begins
pub record Token : Type 0 where
  pub lexeme : Lexeme
  pub at : ℕ

-- space, tab, CR, form feed and vertical tab
abbrev pub is_blank : ℕ → Bool
is_blank b = b == 32 || b == 9 || b == 13 || b == 12 || b == 11

-- an ASCII letter, `_` or a byte of a character past ASCII
abbrev pub begins_word : ℕ → Bool
begins_word b = is_ascii_alphabetic b || b == 95 || nat_le 128 b

-- what a word goes on with: these, ASCII digits and `$`
abbrev pub goes_on_word : ℕ → Bool
goes_on_word b = begins_word b || is_ascii_digit b || b == 36

-- * , ( ) ;
abbrev pub is_sign : ℕ → Bool
is_sign b = b == 42 || b == 44 || b == 40 || b == 41 || b == 59

-- `-` and then another one
abbrev pub begins_comment : ℕ → List ℕ → Bool
begins_comment b [] = false
begins_comment b (c ∷ bytes) = b == 45 && c == 45

-- the text before a closing quote, and how many bytes it takes with this quote
pub record Inside : Type 0 where
  pub text : List ℕ
  pub size : ℕ

-- a byte of the text that takes so many bytes, before the rest of it
abbrev pub preceded : ℕ → ℕ → Inside → Inside
preceded b size inside = record { text = b ∷ inside.text; size = size + inside.size }

-- what stands before the closing quote, in bytes that follow an opening one, or nothing where no closing quote stands; a quote
-- that is written twice is a byte of the text
abbrev pub closed : ℕ → List ℕ → Option Inside
closed quote [] = None
closed quote (b ∷ []) = elim (b == quote) [ true ↦ Some (record { text = []; size = 1 }) | false ↦ None ]
closed quote (b ∷ c ∷ bytes) = elim (b == quote) [
  | true ↦ elim (c == quote) [ true ↦ option_map (preceded quote 2) (closed quote bytes) | false ↦ Some (record { text = []; size = 1 }) ]
  | false ↦ option_map (preceded b 1) (closed quote (c ∷ bytes))
]

-- what the first byte of some bytes begins
pub data Kind : Type 0 where
  ABlank : Kind
  AComment : Kind
  AWord : Kind
  ANumber : Kind
  ASign : Kind
  AQuoted : Kind
  ALiteral : Kind
  -- none of these
  ANothing : Kind

-- what a byte, with those after it, begins
abbrev pub kind : ℕ → List ℕ → Kind
kind b bytes =
    cond (is_blank b) ABlank
    (cond (begins_comment b bytes) AComment
    (cond (begins_word b) AWord
    (cond (is_ascii_digit b) ANumber
    (cond (is_sign b) ASign
    (cond (b == 34) AQuoted
    (cond (b == 39) ALiteral ANothing))))))

-- what stands at the front of some bytes
pub data Front : Type 0 where
  -- a blank
  Blank : Front
  -- a comment, which runs to the end
  Comment : Front
  -- a token, and how many bytes it takes after its first
  OneToken : (lexeme : Lexeme) → (more : ℕ) → Front
  -- no token
  NoToken : Front

-- a quoted identifier has at least one character
abbrev pub quoted_front : Option Inside → Front
quoted_front None = NoToken
quoted_front (Some inside) = elim inside.text [ [] ↦ NoToken | b ∷ bytes ↦ OneToken (Quoted (b ∷ bytes)) inside.size ]

-- a literal may be empty
abbrev pub literal_front : Option Inside → Front
literal_front None = NoToken
literal_front (Some inside) = OneToken (Literal inside.text) inside.size

-- what a byte of this kind and those after it are at their front: a word and a number are as long as they can be
abbrev pub front : Kind → ℕ → List ℕ → Front
front ABlank b bytes = Blank
front AComment b bytes = Comment
front AWord b bytes = OneToken (Word (b ∷ take_while goes_on_word bytes)) (length (take_while goes_on_word bytes))
front ANumber b bytes = OneToken (Number (b ∷ take_while is_ascii_digit bytes)) (length (take_while is_ascii_digit bytes))
front ASign b bytes = OneToken (Sign b) 0
front AQuoted b bytes = quoted_front (closed b bytes)
front ALiteral b bytes = literal_front (closed b bytes)
front ANothing b bytes = NoToken

-- the tokens of the bytes from an offset of the line on, of which the first `taken` belong to the token before; what begins no
-- token is wrong, and nothing is read after it
abbrev pub tokens_from : ℕ → ℕ → List ℕ → List Token
tokens_from at taken [] = []
tokens_from at (suc taken) (b ∷ bytes) = tokens_from (at + 1) taken bytes
tokens_from at zero (b ∷ bytes) = elim (front (kind b bytes) b bytes) [
  | Blank ↦ tokens_from (at + 1) 0 bytes
  | Comment ↦ []
  | OneToken lexeme more ↦ record { lexeme = lexeme; at = at } ∷ tokens_from (at + 1) more bytes
  | NoToken ↦ record { lexeme = Wrong; at = at } ∷ []
]

-- the tokens of a line
abbrev pub tokens : List ℕ → List Token
tokens text = tokens_from 0 0 text
