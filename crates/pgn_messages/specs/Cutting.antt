-- What is told of the tokens of the code.
use Rattle.std.specs.Prelude.{ℕ, Bool, true, false, List, []}
use Rattle.std.specs.Str.{str_to_ascii_lowercase}
use Rattle.pgn_command.specs.Texts.{single}
use Rattle.pgn_command.specs.declared.token.Lexeme.{Lexeme}
use Rattle.pgn_command.specs.declared.token.Lexeme.TheVariants as lexeme
use Rattle.pgn_messages.specs.Served.{name_notice}

-- the token is the end
abbrev pub ends : Lexeme → Bool
ends lexeme.End = true
ends token = false

-- the notice of a token, where it is an identifier that is cut
abbrev pub notice_of : Lexeme → List ℕ
notice_of (lexeme.Word text) = name_notice (str_to_ascii_lowercase text.now)
notice_of (lexeme.Quoted inside) = name_notice (single inside.quote inside.raw.now)
notice_of token = []
