-- Laws of all sections together: what all traces bear out, and the run that is given back from what was read.
use Rattle.std.specs.Prelude.{◌≡◌, ◌↔◌, ℕ, List, [], ◌∷◌, flat_map, All, Contains}
use Rattle.pgn_journal.specs.declared.tx.Tx.{Tx}
use Rattle.pgn_language.specs.declared.scenario.ScriptLine.{ScriptLine}
use Rattle.pgn_language.specs.declared.scenario.Section.{Section}
use Rattle.pgn_language.specs.declared.scenario.Scenario.{Scenario}
use Rattle.pgn_model.specs.declared.item.Item.{Item}
use Rattle.pgn_model.specs.declared.trace.Trace.{Trace}
use Rattle.pgn_model.specs.Along.{Along}
use Rattle.pgn_model.specs.Walk.{Settings, Terms, State, start, after_item}
use Rattle.pgn_model.specs.Trace.{TraceOk, IsUpToDate}
use Rattle.pgn_model.specs.Legal.{EachTrace, Legal, ends, StoodAt}
use Rattle.pgn_model.specs.Text.{item_lines}
use Rattle.pgn_reading.specs.Completed.{completed}
use Rattle.pgn_reading.specs.Form.{IsReadable, IsReading}
use Rattle.pgn_reading.specs.Shown.{named_shown, raised_in, found_shown, ShowsMark}
use Rattle.pgn_reading.specs.Blame.{IsGoodTx, Comes, IsAtRest, IsWhole, IsLegalText}
use Rattle.pgn_reading.specs.WalkLaws.{completed_trace}
use Rattle.pgn_reading.specs.BlameLaws.{AreSpotless}

-- What all traces bear out.

-- the flags that all sessions raised are those that lawful traces raise
abbrev pub RaisedInAll : Type 0
RaisedInAll = (settings : Settings) (journal : List Tx) (sections : List Section) (traces : List Trace) → EachTrace settings (λ terms trace. TraceOk terms trace journal) sections traces
    → flat_map (λ end. end.state.raised) (ends settings sections traces) ≡ raised_in sections traces

-- a session stood at a mark exactly where its trace shows the mark
abbrev pub StoodInAll : Type 0
StoodInAll = (settings : Settings) (journal : List Tx) (sections : List Section) (traces : List Trace) (pair : ℕ × ℕ) → EachTrace settings (λ terms trace. TraceOk terms trace journal) sections traces
    → StoodAt (ends settings sections traces) pair ↔ ShowsMark traces pair

-- the flags that all sessions found are among these exactly where those are that each item finds
abbrev pub FoundInAll : Type 0
FoundInAll = (settings : Settings) (journal : List Tx) (sections : List Section) (traces : List Trace) (pairs : List (ℕ × ℕ)) → EachTrace settings (λ terms trace. TraceOk terms trace journal) sections traces
    → All (Contains pairs) (flat_map (λ end. end.state.found) (ends settings sections traces))
    ↔ EachTrace settings (λ terms trace. Along after_item (λ s item. All (Contains pairs) (found_shown s.owed item)) (start terms.section) trace.items) sections traces

-- all holders that were met stood at their marks in these traces exactly where those did that each item names
abbrev pub NamedInAll : Type 0
NamedInAll = (settings : Settings) (journal : List Tx) (sections : List Section) (traces others : List Trace) → EachTrace settings (λ terms trace. TraceOk terms trace journal) sections traces
    → All (ShowsMark others) (flat_map (λ end. end.state.named) (ends settings sections traces)) ↔ All (λ trace. All (λ item. All (ShowsMark others) (named_shown item)) trace.items) traces

-- The run that is given back.

-- what the walk adds has no line
abbrev pub CompletedShowsSame : Type 0
CompletedShowsSame = (lines : List ScriptLine) (s : State) (items : List Item) → flat_map (item_lines lines) (completed s items) ≡ flat_map (item_lines lines) items

-- the traces that were read, with what the walk adds
abbrev pub completed_traces : List Section → List Trace → List Trace
completed_traces (section ∷ sections) (trace ∷ traces) = completed_trace section trace ∷ completed_traces sections traces
completed_traces sections traces = []

-- the walk came past all items of a trace, none is to blame, no read was left out at the end, and nothing is missing
pub record IsWalked (terms : Terms) (journal : List Tx) (sections : List Section) (traces : List Trace) (trace : Trace) : Type 0 where
  pub state : State
  pub comes : Comes terms journal trace.items state
  pub spotless : AreSpotless terms journal sections traces trace.items
  pub fresh : IsAtRest state → IsUpToDate terms journal state
  pub nothing_missing : IsWhole terms.section journal trace state

-- where so it is of each trace, and each transaction is as it has to be, the completed traces are a legal run
abbrev pub WalkedIsLegal : Type 0
WalkedIsLegal = (scenario : Scenario) (settings : Settings) (journal : List Tx) (traces : List Trace) → IsReadable scenario journal traces → All (IsGoodTx scenario.sections) journal
    → EachTrace settings (λ terms trace. IsWalked terms journal scenario.sections traces trace) scenario.sections traces → Legal scenario settings journal (completed_traces scenario.sections traces)

-- and the text is that of a legal run
abbrev pub WalkedIsLegalText : Type 0
WalkedIsLegalText = (scenario : Scenario) (settings : Settings) (out : List ℕ) (journal : List Tx) (traces : List Trace) → IsReading scenario out journal traces → All (IsGoodTx scenario.sections) journal
    → EachTrace settings (λ terms trace. IsWalked terms journal scenario.sections traces trace) scenario.sections traces → IsLegalText scenario settings out
