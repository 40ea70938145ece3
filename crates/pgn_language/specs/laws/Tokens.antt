-- Laws of quotes, of cut names, and of how the tokens of a text lie in it.
use Rattle.std.specs.Prelude.{◌≡◌, ◌≢◌, ◌↔◌, ℕ, ◌+◌, ◌≤◌, Bool, true, false, ◌==◌, All, List, [], ◌∷◌, ◌++◌, length, take, drop, flat_map, slice_get, Some, IsUtf8, ◌<◌, Contains}
use Rattle.std.specs.Char.{is_ascii_digit}
use Rattle.pgn_base.specs.declared.limits.TheConstants.{NAME_BYTES_MAX}
use Rattle.pgn_base.specs.Texts.{IsName}
use Rattle.pgn_language.specs.Quotes.{doubled_byte, quoted}
use Rattle.pgn_language.specs.Tokens.{Lexeme, Word, Quoted, Literal, Number, Sign, Wrong, Token, tokens, Inside, closed, is_blank, begins_comment, begins_word, goes_on_word, is_sign}
use Rattle.pgn_language.specs.Grammar.{cut}

-- bytes begin with a text, each quote in it twice, and a closing quote, after which no quote stands
pub record IsClosed (quote : ℕ) (bytes : List ℕ) (inside : Inside) : Type 0 where
  pub spelled : bytes ≡ flat_map (doubled_byte quote) inside.text ++ quote ∷ drop inside.size bytes
  pub size : inside.size ≡ length (flat_map (doubled_byte quote) inside.text) + 1
  pub ends : slice_get (drop inside.size bytes) 0 ≢ Some quote

-- what stands before the closing quote is the one text that the bytes spell
abbrev pub QuotesTell : Type 0
QuotesTell = (quote : ℕ) (bytes : List ℕ) (inside : Inside) → (closed quote bytes ≡ Some inside) ↔ IsClosed quote bytes inside

-- a part of a text is its longest prefix of whole characters that has at most n bytes
pub record IsLongestPrefix (n : ℕ) (text part : List ℕ) : Type 0 where
  pub prefix : part ≡ take (length part) text
  pub short : length part ≤ n
  pub whole : IsUtf8 part
  pub longest : (m : ℕ) → m ≤ n → m ≤ length text → IsUtf8 (take m text) → m ≤ length part

-- a cut text is its longest prefix of whole characters that is short enough
abbrev pub CutIsLongest : Type 0
CutIsLongest = (n : ℕ) (text : List ℕ) → IsUtf8 text → IsLongestPrefix n text (cut n text)

-- a text with a character and no zero byte is cut to a name
abbrev pub CutIsName : Type 0
CutIsName = (text : List ℕ) → IsUtf8 text → 0 < length text → (Contains text 0 → ⊥) → IsName (cut NAME_BYTES_MAX text)

-- a token as it is written, each quote inside quotes twice
abbrev pub written : Lexeme → List ℕ
written (Word text) = text
written (Quoted text) = quoted 34 text
written (Literal text) = quoted 39 text
written (Number digits) = digits
written (Sign sign) = sign ∷ []
written Wrong = []

-- each token stands in the text where it begins
abbrev pub AllStand : List ℕ → List Token → Type 0
AllStand text [] = Unit {0}
AllStand text (token ∷ tokens) = ((rest : List ℕ) × (drop token.at text ≡ written token.lexeme ++ rest)) × AllStand text tokens

-- the tokens of a text stand in it where they begin
abbrev pub TokensStand : Type 0
TokensStand = (text : List ℕ) → AllStand text (tokens text)

-- the first of the bytes, if there is one, fails the test
abbrev pub NoneFollows : (ℕ → Bool) → List ℕ → Type 0
NoneFollows test [] = Unit {0}
NoneFollows test (b ∷ bytes) = test b ≡ false

-- a byte that begins a word, and then bytes with which it goes on
abbrev pub IsWord : List ℕ → Type 0
IsWord [] = ⊥
IsWord (b ∷ bytes) = (begins_word b ≡ true) × All (λ byte. goes_on_word byte ≡ true) bytes

-- one or more ASCII digits
abbrev pub IsNumber : List ℕ → Type 0
IsNumber [] = ⊥
IsNumber (b ∷ bytes) = (is_ascii_digit b ≡ true) × All (λ byte. is_ascii_digit byte ≡ true) bytes

-- a token is well formed, and does not go on with the bytes that follow it
abbrev pub IsWhole : Lexeme → List ℕ → Type 0
IsWhole (Word text) rest = IsWord text × NoneFollows goes_on_word rest
IsWhole (Quoted text) rest = (text ≢ []) × NoneFollows (λ byte. byte == 34) rest
IsWhole (Literal text) rest = NoneFollows (λ byte. byte == 39) rest
IsWhole (Number digits) rest = IsNumber digits × NoneFollows is_ascii_digit rest
IsWhole (Sign sign) rest = is_sign sign ≡ true
IsWhole Wrong rest = ⊥

-- neither a blank nor a comment nor a token stands at the front of a byte and those after it
pub record NothingStands (b : ℕ) (bytes : List ℕ) : Type 0 where
  pub no_blank : is_blank b ≡ false
  pub no_comment : begins_comment b bytes ≡ false
  pub no_token : (lexeme : Lexeme) → (rest : List ℕ) → b ∷ bytes ≡ written lexeme ++ rest → IsWhole lexeme rest → ⊥

-- tokens cover bytes, of which the first has this offset in the line: nothing but blanks stands before them and between them,
-- and nothing but blanks and a comment after them
pub data Covers : ℕ → List ℕ → List Token → Type 0 where
  -- no byte is left
  Ended : (at : ℕ) → Covers at [] []
  -- a comment runs to the end
  Commented : (at b : ℕ) → (bytes : List ℕ) → begins_comment b bytes ≡ true → Covers at (b ∷ bytes) []
  -- a blank
  Spaced : (at b : ℕ) → (bytes : List ℕ) → (tokens : List Token) → is_blank b ≡ true → Covers (at + 1) bytes tokens → Covers at (b ∷ bytes) tokens
  -- a token as it is written
  Tokened : (at : ℕ) → (lexeme : Lexeme) → (rest : List ℕ) → (tokens : List Token) → IsWhole lexeme rest → Covers (at + length (written lexeme)) rest tokens
      → Covers at (written lexeme ++ rest) (record { lexeme = lexeme; at = at } ∷ tokens)
  -- none of these, and then anything
  Stuck : (at b : ℕ) → (bytes : List ℕ) → NothingStands b bytes → Covers at (b ∷ bytes) (record { lexeme = Wrong; at = at } ∷ [])

-- the tokens of a text cover it
abbrev pub TokensCover : Type 0
TokensCover = (text : List ℕ) → Covers 0 text (tokens text)

-- they are the only ones that cover it, in whatever order it is read
abbrev pub OneCover : Type 0
OneCover = (text : List ℕ) (some : List Token) → Covers 0 text some → some ≡ tokens text
