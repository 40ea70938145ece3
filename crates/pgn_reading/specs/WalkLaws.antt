-- Laws of the walk over items that were read.
use Rattle.std.specs.Prelude.{◌≡◌, List, [], ◌∷◌, ◌++◌, fold, flat_map}
use Rattle.pgn_journal.specs.declared.tx.Tx.{Tx}
use Rattle.pgn_language.specs.declared.scenario.ScriptLine.{ScriptLine}
use Rattle.pgn_language.specs.declared.scenario.Section.{Section}
use Rattle.pgn_model.specs.declared.item.Item.{Item}
use Rattle.pgn_model.specs.declared.trace.Trace.{Trace}
use Rattle.pgn_model.specs.Along.{Along}
use Rattle.pgn_model.specs.Walk.{Terms, State, Nothing, start, after_item, Allowed}
use Rattle.pgn_model.specs.Trace.{IsEnd, TraceOk, IsUpToDate, IsFreshAt, Fresh}
use Rattle.pgn_model.specs.Legal.{finished_xids}
use Rattle.pgn_model.specs.Text.{item_lines}
use Rattle.pgn_reading.specs.Completed.{seen, ready, whole, stepped, completed}
use Rattle.pgn_reading.specs.Blame.{Comes}

-- a trace that was read, with what the walk adds
abbrev pub completed_trace : Section → Trace → Trace
completed_trace section trace = record { session = trace.session; db = trace.db; items = completed (start section) trace.items; last = trace.last }

-- what is seen of items has their lines
abbrev pub ReadShowsSame : Type 0
ReadShowsSame = (lines : List ScriptLine) (items : List Item) → flat_map (item_lines lines) (seen items) ≡ flat_map (item_lines lines) items

-- lawful items are what is seen of them, with what the walk adds
abbrev pub ReadIsCompleted : Type 0
ReadIsCompleted = (terms : Terms) (journal : List Tx) (s : State) (items : List Item) → Along after_item (Allowed terms journal) s items → (fold after_item s items).owed ≡ Nothing
    → completed s (seen items) ≡ items

-- before the first item the walk has come past none
abbrev pub ComesFirst : Type 0
ComesFirst = (terms : Terms) (journal : List Tx) → Comes terms journal [] (start terms.section)

-- it comes past an item that is allowed
abbrev pub ComesOn : Type 0
ComesOn = (terms : Terms) (journal : List Tx) (before : List Item) (item : Item) (s : State) → Comes terms journal before s → Allowed terms journal (ready s) (whole s item)
    → Comes terms journal (before ++ item ∷ []) (stepped s item)

-- where it comes past all items, and the script is done, the trace is lawful
abbrev pub ComesToEnd : Type 0
ComesToEnd = (terms : Terms) (journal : List Tx) (trace : Trace) (s : State) → trace.session ≡ terms.section.no → trace.db ≡ terms.section.db
    → Comes terms journal trace.items s → IsEnd s trace.last → TraceOk terms (completed_trace terms.section trace) journal

-- no read was left out where a line begins among these items that were read
abbrev pub IsFreshSoFar : Terms → List Tx → List Item → Type 0
IsFreshSoFar terms journal items = Along stepped (λ s item. IsFreshAt terms journal (ready s) item) (start terms.section) items

-- before the first item none was left out
abbrev pub FreshFirst : Type 0
FreshFirst = (terms : Terms) (journal : List Tx) → IsFreshSoFar terms journal []

-- nor past an item before which none was left out
abbrev pub FreshOn : Type 0
FreshOn = (terms : Terms) (journal : List Tx) (before : List Item) (item : Item) (s : State) → Comes terms journal before s → IsFreshSoFar terms journal before → IsFreshAt terms journal (ready s) item
    → IsFreshSoFar terms journal (before ++ item ∷ [])

-- where none was left out at any line nor at the end, the trace left none out
abbrev pub FreshComes : Type 0
FreshComes = (terms : Terms) (journal : List Tx) (trace : Trace) (s : State) → Comes terms journal trace.items s → IsFreshSoFar terms journal trace.items → IsUpToDate terms journal s
    → Fresh terms (completed_trace terms.section trace) journal

-- what a trace shows as finished is what was read of it
abbrev pub OwnIsRead : Type 0
OwnIsRead = (s : State) (items : List Item) → finished_xids (completed s items) ≡ finished_xids items

-- and what is seen of it
abbrev pub OwnIsSeen : Type 0
OwnIsSeen = (items : List Item) → finished_xids (seen items) ≡ finished_xids items

-- an item of a lawful trace is allowed where it is seen
abbrev pub LawfulIsNotRefused : Type 0
LawfulIsNotRefused = (terms : Terms) (journal : List Tx) (trace : Trace) (before after : List Item) (item : Item) (s : State) → TraceOk terms trace journal → seen trace.items ≡ before ++ item ∷ after
    → Comes terms journal before s → Allowed terms journal (ready s) (whole s item)

-- a trace that left no read out left none out before a line that is seen of it
abbrev pub FreshIsNotLeftOut : Type 0
FreshIsNotLeftOut = (terms : Terms) (journal : List Tx) (trace : Trace) (before after : List Item) (item : Item) (s : State) → TraceOk terms trace journal → Fresh terms trace journal
    → seen trace.items ≡ before ++ item ∷ after → Comes terms journal before s → IsFreshAt terms journal (ready s) item

-- nor at the end
abbrev pub FreshIsUpToDate : Type 0
FreshIsUpToDate = (terms : Terms) (journal : List Tx) (trace : Trace) (s : State) → TraceOk terms trace journal → Fresh terms trace journal → Comes terms journal (seen trace.items) s
    → IsUpToDate terms journal s

-- what is seen of a lawful trace is whole
abbrev pub LawfulIsFinished : Type 0
LawfulIsFinished = (terms : Terms) (journal : List Tx) (trace : Trace) (s : State) → TraceOk terms trace journal → Comes terms journal (seen trace.items) s → IsEnd s trace.last
