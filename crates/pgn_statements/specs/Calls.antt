-- Calls of pg_notify as the code has them.
use Rattle.std.specs.Prelude.{◌≡◌, List, Option, None, Some, MatchOption}
use Rattle.pgn_base.specs.declared.note.Note.{Note}
use Rattle.pgn_base.specs.declared.command.Command.TheVariants as command
use Rattle.pgn_language.specs.Tokens as model
use Rattle.pgn_language.specs.Grammar.{limited}
use Rattle.pgn_language.specs.laws.Commands.{IsValid}
use Rattle.pgn_command.specs.Statements.{text_bytes}
use Rattle.pgn_requests.specs.Phrases.{Argued, called}
use Rattle.pgn_statements.specs.Lexemes.{all_meant}
use Rattle.pgn_statements.specs.declared.calls.Call.{Call}
use Rattle.pgn_statements.specs.declared.calls.Argument.{Argument}

-- the notification of a call
abbrev pub note_of : Call → Note
note_of call = record { channel = text_bytes call.channel; payload = text_bytes call.payload }

-- the code's call is this one, or none where this is none
abbrev pub IsCall : Option Call → Option Note → Type 0
IsCall result told = MatchOption result (told ≡ None) (λ call. told ≡ Some (note_of call))

-- an argument and the tokens after it
abbrev pub argued_of : Argument → Argued
argued_of one = record { text = text_bytes one.text; rest = all_meant one.rest.now }

-- the code's argument is this one, or none where this is none
abbrev pub IsArgument : Option Argument → Option Argued → Type 0
IsArgument result told = MatchOption result (told ≡ None) (λ one. told ≡ Some (argued_of one))

-- the notification of the call that these tokens are, if they are one, can be sent or is past a limit
abbrev pub CallIsValid : List model.Lexeme → Type 0
CallIsValid lexemes = (note : Note) → called lexemes ≡ Some note → IsValid (limited (command.PgNotify note))
