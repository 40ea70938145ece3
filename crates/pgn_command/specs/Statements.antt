-- What the statements of the code are.
use Rattle.std.specs.Prelude.{◌≡◌, ◌==◌, ℕ, Bool, List, [], true, false, drop, Result, Ok, Err, MatchResult}
use Rattle.std.specs.Char.{to_ascii_lowercase}
use Rattle.std.specs.List.{repeat}
use Rattle.pgn_base.specs.declared.command.Command.{Command}
use Rattle.pgn_base.specs.declared.command.Command.TheVariants as command
use Rattle.pgn_language.specs.Tokens as model
use Rattle.pgn_language.specs.Grammar.{Name, name_of}
use Rattle.pgn_command.specs.Texts.{single}
use Rattle.pgn_command.specs.Reading.{noted, Ahead, Argument, takes, front_lexeme, front_at}
use Rattle.pgn_command.specs.declared.statement.Ident.{Ident}
use Rattle.pgn_command.specs.declared.statement.Ident.TheVariants as ident
use Rattle.pgn_command.specs.declared.statement.Text.{Text}
use Rattle.pgn_command.specs.declared.statement.Text.TheVariants as text
use Rattle.pgn_command.specs.declared.statement.Statement.{Statement}
use Rattle.pgn_command.specs.declared.statement.Statement.TheVariants as statement
use Rattle.pgn_command.specs.declared.statement.Stop.{Stop}

-- the token that a name is
abbrev pub ident_lexeme : Ident → model.Lexeme
ident_lexeme (ident.Word text) = model.Word text.now
ident_lexeme (ident.Quoted inside) = model.Quoted (single inside.quote inside.raw.now)

-- the name
abbrev pub ident_name : Ident → List ℕ
ident_name one = name_of (ident_lexeme one)

-- a byte is what it is folded to
abbrev pub is_folded : ℕ → Bool
is_folded byte = to_ascii_lowercase byte == byte

-- a text that is not yet built
abbrev pub text_bytes : Text → List ℕ
text_bytes (text.Literal inside) = single inside.quote inside.raw.now
text_bytes text.Null = []
text_bytes (text.Repeat inside count) = repeat count (single inside.quote inside.raw.now)

-- the command that a statement is, before its limits are tested
abbrev pub meant : Statement → Command
meant statement.Empty = command.Empty
meant statement.Begin = command.Begin
meant statement.Start = command.Start
meant statement.Commit = command.Commit
meant statement.Rollback = command.Rollback
meant (statement.Savepoint name) = command.Savepoint (ident_name name)
meant (statement.RollbackTo name) = command.RollbackTo (ident_name name)
meant (statement.Release name) = command.Release (ident_name name)
meant (statement.Listen name) = command.Listen (ident_name name)
meant (statement.Unlisten name) = command.Unlisten (ident_name name)
meant statement.UnlistenAll = command.UnlistenAll
meant (statement.Notify channel payload) = command.Notify (noted (ident_name channel) (text_bytes payload))
meant (statement.PgNotify channel payload) = command.PgNotify (noted (text_bytes channel) (text_bytes payload))
meant statement.ListeningChannels = command.ListeningChannels
meant statement.QueueUsage = command.QueueUsage

-- the command of a statement that has a name and nothing else, with this name
abbrev pub with_name : Statement → List ℕ → Command
with_name (statement.Savepoint one) name = command.Savepoint name
with_name (statement.RollbackTo one) name = command.RollbackTo name
with_name (statement.Release one) name = command.Release name
with_name (statement.Listen one) name = command.Listen name
with_name one name = command.Unlisten name

-- the code's answer is this one
abbrev pub Gives : Result Statement Stop → Result Command ℕ → Type 0
Gives answer told = MatchResult answer (λ one. told ≡ Ok (meant one)) (λ stop. told ≡ Err stop.at)

-- the code's text is this one, and the tokens after it are ahead
abbrev pub GivesText : Result Text Stop → ℕ → Ahead → Result Argument ℕ → Type 0
GivesText answer end new told =
    MatchResult answer (λ one. let argument : Argument = record { text = text_bytes one; rest = new.tokens } in (told ≡ Ok argument) × (new.end ≡ end)) (λ stop. told ≡ Err stop.at)

-- a name is the first of these tokens, and those after it are ahead
abbrev pub IsNamed : List model.Token → ℕ → Ahead → Ident → Type 0
IsNamed tokens end new one = (takes Name tokens ≡ true) × (front_lexeme tokens ≡ ident_lexeme one) × (new.tokens ≡ drop 1 tokens) × (new.end ≡ end)

-- no name is the first of these tokens, where the line goes wrong
abbrev pub IsUnnamed : List model.Token → ℕ → Stop → Type 0
IsUnnamed tokens end stop = (takes Name tokens ≡ false) × (stop.at ≡ front_at end tokens)
