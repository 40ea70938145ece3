-- What the items of traces show by themselves, past a fault too: marks, holders, and numbers of flags.
use Rattle.std.specs.Prelude.{◌≡◌, ℕ, List, [], ◌∷◌, ◌++◌, flat_map, Option, Some, None, Any, Contains}
use Rattle.pgn_language.specs.declared.scenario.Act.{Act}
use Rattle.pgn_language.specs.declared.scenario.Act.TheVariants.{Signal}
use Rattle.pgn_language.specs.declared.scenario.ScriptLine.{ScriptLine}
use Rattle.pgn_language.specs.declared.scenario.Section.{Section}
use Rattle.pgn_model.specs.declared.item.Item.{Item}
use Rattle.pgn_model.specs.declared.item.Item.TheVariants.{Line, Enlist, QueueFull, Used, Raise, Found, Read}
use Rattle.pgn_model.specs.declared.trace.Trace.{Trace}
use Rattle.pgn_model.specs.Walk.{Owed, Awaiting, holder_at}

-- the bases, points and ends of reads that an item shows
abbrev pub marks_shown : Item → List ℕ
marks_shown (Enlist base point) = base ∷ point ∷ []
marks_shown (Read from to got) = to ∷ []
marks_shown item = []

-- the holder that an item names, with the floor mark
abbrev pub named_shown : Item → List (ℕ × ℕ)
named_shown (QueueFull full notes) = holder_at full.holder full.floor_mark
named_shown (Used usage) = holder_at usage.holder usage.floor_mark
named_shown item = []

-- the flag that an act signals
abbrev pub flag_of : Act → Option ℕ
flag_of (Signal flag) = Some flag
flag_of act = None

-- the flag of the line that begins next
abbrev pub next_flag : List ScriptLine → Option ℕ
next_flag [] = None
next_flag (line ∷ lines) = flag_of line.act

-- a flag with the number that it shows, where the line has a flag
abbrev pub flag_at : Option ℕ → ℕ → List (ℕ × ℕ)
flag_at None value = []
flag_at (Some flag) value = (flag, value) ∷ []

-- the rest of a script after its next line
abbrev pub lines_behind : List ScriptLine → List ScriptLine
lines_behind [] = []
lines_behind (line ∷ lines) = lines

-- the flags that items raise, with the numbers that they show; the flag is that of the script line in whose items it is raised
abbrev pub raised_from : Option ℕ → List ScriptLine → List Item → List (ℕ × ℕ)
raised_from flag lines [] = []
raised_from flag lines (Line n ∷ items) = raised_from (next_flag lines) (lines_behind lines) items
raised_from flag lines (Raise value ∷ items) = flag_at flag value ++ raised_from flag lines items
raised_from flag lines (item ∷ items) = raised_from flag lines items

-- the flags that all traces raise
abbrev pub raised_in : List Section → List Trace → List (ℕ × ℕ)
raised_in (section ∷ sections) (trace ∷ traces) = raised_from None section.lines trace.items ++ raised_in sections traces
raised_in sections traces = []

-- the flag that an item finds, with the number that it shows
abbrev pub found_shown : Owed → Item → List (ℕ × ℕ)
found_shown (Awaiting flag) (Found value) = (flag, value) ∷ []
found_shown owed item = []

-- some trace of this session shows this mark
abbrev pub ShowsMark : List Trace → ℕ × ℕ → Type 0
ShowsMark traces pair = Any (λ trace. (trace.session ≡ pair.0) × Contains (flat_map marks_shown trace.items) pair.1) traces
