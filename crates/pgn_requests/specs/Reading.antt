-- What a Query's body asks for.
use Rattle.std.specs.Prelude.{◌≡◌, ℕ, ◌&&◌, cond, List, [], ◌∷◌, ◌++◌, Option, None, Some, codes, Contains, IsUtf8}
use Rattle.pgn_base.specs.declared.command.Command.{Command}
use Rattle.pgn_base.specs.declared.command.Command.TheVariants as command
use Rattle.pgn_language.specs.Tokens.{Lexeme, Wrong, Token, tokens}
use Rattle.pgn_language.specs.Grammar.{ReadsAs}
use Rattle.pgn_requests.specs.declared.complaint.Cause.TheVariants.{BadEncoding, BadMessage}
use Rattle.pgn_requests.specs.declared.complaint.Wording.{Wording}
use Rattle.pgn_requests.specs.declared.complaint.Wording.TheVariants.{Plain, Called}
use Rattle.pgn_requests.specs.declared.request.Request.{Request}
use Rattle.pgn_requests.specs.declared.request.Request.TheVariants.{Line}
use Rattle.pgn_requests.specs.Texts.{bare, one_line}
use Rattle.pgn_requests.specs.Phrases.{refused, is_key, is_past_limit, asked_of}

-- the body of a Query with this text
abbrev pub body_of : List ℕ → List ℕ
body_of text = text ++ 0 ∷ []

-- a body does not end with its only zero byte
abbrev pub IsGarbled : List ℕ → Type 0
IsGarbled body = (text : List ℕ) → body ≡ body_of text → (Contains text 0 → ⊥) → ⊥

-- the first token, or a wrong one where there is none
abbrev pub first_lexeme : List Token → Lexeme
first_lexeme [] = Wrong
first_lexeme (token ∷ tokens) = token.lexeme

-- how the answer to a command is put
abbrev pub worded : List ℕ → Command → Wording
worded text command = cond (is_past_limit command && is_key (codes "select") (first_lexeme (tokens text))) Called Plain

-- the line that a bare text is with this command
abbrev pub read_line : List ℕ → Command → Request
read_line text command = Line (one_line text) command (worded text command)

-- the byte where a text is refused
abbrev pub bad_at : Command → Option ℕ
bad_at (command.Bad at) = Some at
bad_at command = None

-- what a bare text asks for that reads as this command
abbrev pub request_of : List ℕ → Command → Request
request_of text command = elim (bad_at command) [ Some at ↦ asked_of text at | None ↦ read_line text command ]

-- what a Query's body asks for
pub data RequestIs (body : List ℕ) : Request → Type 0 where
  -- the body does not end with its only zero byte
  Garbled : IsGarbled body → RequestIs body (refused [] 0 BadMessage (codes "invalid message format"))
  -- what stands before it is no UTF-8
  Encoded : (text : List ℕ) → body ≡ body_of text → (Contains text 0 → ⊥) → (IsUtf8 text → ⊥) → RequestIs body (refused [] 0 BadEncoding (codes "invalid byte sequence for encoding \"UTF8\""))
  -- it is a text
  Reads : (text : List ℕ) (command : Command) → body ≡ body_of text → (Contains text 0 → ⊥) → IsUtf8 text → ReadsAs (bare text) command → RequestIs body (request_of (bare text) command)
