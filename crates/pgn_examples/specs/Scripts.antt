-- Lines of scripts, notifications and transactions for the worked examples of whole runs.
use Rattle.std.specs.Prelude.{ℕ, List}
use Rattle.pgn_base.specs.declared.note.Note.{Note}
use Rattle.pgn_journal.specs.declared.tx.Tx.{Tx}
use Rattle.pgn_journal.specs.declared.tx.Fate.{Fate}
use Rattle.pgn_base.specs.declared.command.Command.{Command}
use Rattle.pgn_language.specs.declared.scenario.Act.TheVariants.{Run}
use Rattle.pgn_language.specs.declared.scenario.ScriptLine.{ScriptLine}
use Rattle.pgn_language.specs.Inputs.{script_line}

-- a line with a command
abbrev pub command_line : ℕ → List ℕ → Command → ScriptLine
command_line line text command = script_line line text (Run command)

-- a notification on this channel
abbrev pub note_on : List ℕ → List ℕ → Note
note_on channel payload = record { channel = channel; payload = payload }

-- a transaction of a session in a database
abbrev pub finished : ℕ → ℕ → List Note → ℕ → Fate → Tx
finished session db notes queued fate = record { session = session; db = db; notes = notes; queued = queued; fate = fate }
