-- Which commands are valid, and that lines read as such.
use Rattle.std.specs.Prelude.{ℕ, List, Contains, IsUtf8}
use Rattle.pgn_base.specs.Texts.{IsName}
use Rattle.pgn_base.specs.declared.command.Command.{Command}
use Rattle.pgn_base.specs.declared.command.Command.TheVariants as command
use Rattle.pgn_base.specs.Notes.{IsNote}
use Rattle.pgn_language.specs.Grammar.{ReadsAs}

-- each name in the command is a name, and the notification in it can be sent
abbrev pub IsValid : Command → Type 0
IsValid command.Empty = Unit {0}
IsValid command.Begin = Unit {0}
IsValid command.Start = Unit {0}
IsValid command.Commit = Unit {0}
IsValid command.Rollback = Unit {0}
IsValid (command.Savepoint name) = IsName name
IsValid (command.RollbackTo name) = IsName name
IsValid (command.Release name) = IsName name
IsValid (command.Listen name) = IsName name
IsValid (command.Unlisten name) = IsName name
IsValid command.UnlistenAll = Unit {0}
IsValid (command.Notify note) = IsNote note
IsValid (command.PgNotify note) = IsNote note
IsValid command.ListeningChannels = Unit {0}
IsValid command.QueueUsage = Unit {0}
IsValid (command.Invalid which) = Unit {0}
IsValid (command.Bad at) = Unit {0}

-- what a line of UTF-8 without a zero byte reads as is valid
abbrev pub ReadingsAreValid : Type 0
ReadingsAreValid = (text : List ℕ) (command : Command) → IsUtf8 text → (Contains text 0 → ⊥) → ReadsAs text command → IsValid command
