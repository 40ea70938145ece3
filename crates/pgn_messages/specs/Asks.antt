-- What a seat is asked, and the script that its session has of it.
use Rattle.std.specs.Prelude.{◌≡◌, ℕ, ◌+◌, List, [], ◌∷◌, ◌++◌, codes, flat_map}
use Rattle.pgn_base.specs.declared.command.Command.TheVariants.{Bad, Rollback, UnlistenAll}
use Rattle.pgn_language.specs.declared.scenario.Act.TheVariants.{Run, Quit}
use Rattle.pgn_language.specs.declared.scenario.ScriptLine.{ScriptLine}
use Rattle.pgn_messages.specs.declared.asked.Asked.{Asked}
use Rattle.pgn_messages.specs.declared.asked.Ask.{Ask}
use Rattle.pgn_messages.specs.declared.asked.Ask.TheVariants.{Query, Settle, Discard, End}

-- the line that runs a query
abbrev pub line_of : Asked → ScriptLine
line_of query = record { line = query.line; text = query.text; act = Run query.command }

-- the two lines that set a seat back behind a client's end: the one ends its block, the other all of its listening
abbrev pub rollback_line : ℕ → ScriptLine
rollback_line number = record { line = number; text = codes "ROLLBACK"; act = Run Rollback }

abbrev pub unlisten_line : ℕ → ScriptLine
unlisten_line number = record { line = number; text = codes "UNLISTEN *"; act = Run UnlistenAll }

-- the first of the two lines of `DISCARD ALL`: the session refuses it, so that a block fails, and outside of one nothing is done
abbrev pub discard_line : ℕ → ScriptLine
discard_line number = record { line = number; text = codes "DISCARD ALL"; act = Run (Bad 0) }

-- the lines of what a seat is asked
abbrev pub lines_for : Ask → List ScriptLine
lines_for (Query query) = line_of query ∷ []
lines_for (Settle settled) = []
lines_for (Discard line) = discard_line line ∷ unlisten_line (line + 1) ∷ []
lines_for (End line parting) = rollback_line line ∷ unlisten_line (line + 1) ∷ []

-- the line that ends a seat's script: its number is greater than that of each other
abbrev pub seat_quit : ScriptLine
seat_quit = record { line = 4294967295; text = codes "\\quit"; act = Quit }

-- the script of a seat that is asked this, one after another
abbrev pub script_of : List Ask → List ScriptLine
script_of asks = flat_map lines_for asks ++ seat_quit ∷ []

-- the lines of what is asked are numbered one after another from this number on, over all clients
abbrev pub GoOnFrom : ℕ → List Ask → Type 0
GoOnFrom number [] = Unit {0}
GoOnFrom number (Query query ∷ asks) = (query.line ≡ number) × GoOnFrom (number + 1) asks
GoOnFrom number (Settle settled ∷ asks) = GoOnFrom number asks
GoOnFrom number (Discard line ∷ asks) = (line ≡ number) × GoOnFrom (number + 2) asks
GoOnFrom number (End line parting ∷ asks) = (line ≡ number) × GoOnFrom (number + 2) asks
