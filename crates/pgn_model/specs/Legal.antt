-- A journal and all traces together are a run of a scenario.
use Rattle.std.specs.Prelude.{◌≡◌, ℕ, ◌≤◌, ◌==◌, Bool, true, List, [], ◌∷◌, Option, Some, None, IfSome, All, Any, Contains, filter_map, flat_map}
use Rattle.std.specs.List.{list_any}
use Rattle.pgn_journal.specs.declared.tx.Tx.{Tx}
use Rattle.pgn_language.specs.declared.scenario.Section.{Section}
use Rattle.pgn_language.specs.declared.scenario.Scenario.{Scenario}
use Rattle.pgn_model.specs.declared.item.Item.{Item}
use Rattle.pgn_model.specs.declared.item.Item.TheVariants.{Enlist, Publish, QueueFull, Used, Raise, Found, Read}
use Rattle.pgn_model.specs.declared.trace.Trace.{Trace}
use Rattle.pgn_journal.specs.Journal.{next_xid, IsFinished, xids_of}
use Rattle.pgn_journal.specs.QueueUse.{NoPage}
use Rattle.pgn_model.specs.Walk.{Settings, Terms, State}
use Rattle.pgn_model.specs.Trace.{TraceOk, Fresh, state_after}

-- there is one trace for each section, in order, and P holds of each
abbrev pub EachTrace : Settings → (Terms → Trace → Type 0) → List Section → List Trace → Type 0
EachTrace settings P [] [] = Unit {0}
EachTrace settings P (section ∷ sections) (trace ∷ traces) = P (record { section = section; settings = settings }) trace × EachTrace settings P sections traces
EachTrace settings P sections traces = ⊥

-- the number of a transaction that an item shows as finished
abbrev pub finished_xid : Item → Option ℕ
finished_xid (Publish xid notes) = Some xid
finished_xid (QueueFull full notes) = Some full.xid
finished_xid item = None

-- the numbers of the transactions that a trace shows as finished, in order
abbrev pub finished_xids : List Item → List ℕ
finished_xids items = filter_map finished_xid items

-- some section has this number
abbrev pub names_section : List Section → ℕ → Bool
names_section sections session = list_any (λ section. section.no == session) sections

-- the numbers, marks and flags' numbers that an item shows are at most n (those of a read's notifications are below its end)
abbrev pub IsShownWithin : ℕ → Item → Type 0
IsShownWithin n (Enlist base point) = (base ≤ n) × (point ≤ n)
IsShownWithin n (Publish xid notes) = xid ≤ n
IsShownWithin n (QueueFull full notes) = (full.xid ≤ n) × (full.floor_mark ≤ n)
IsShownWithin n (Used usage) = (usage.at ≤ n) × (usage.floor_mark ≤ n)
IsShownWithin n (Raise value) = value ≤ n
IsShownWithin n (Found value) = value ≤ n
IsShownWithin n (Read from to got) = (from ≤ n) × (to ≤ n)
IsShownWithin n item = Unit {0}

-- where an item shows a full queue, the queue was full
abbrev pub IsFullThere : Settings → List Tx → Item → Type 0
IsFullThere settings journal (QueueFull full notes) = NoPage settings.format settings.limit journal full
IsFullThere settings journal item = Unit {0}

-- a session, and the state of the walk at the end of its trace
pub record End : Type 0 where
  pub session : ℕ
  pub state : State

-- the ends of all traces
abbrev pub ends : Settings → List Section → List Trace → List End
ends settings (section ∷ sections) (trace ∷ traces) =
    (record { session = section.no; state = state_after (record { section = section; settings = settings }) trace.items }) ∷ ends settings sections traces
ends settings sections traces = []

-- some session raised the flag with this number
abbrev pub WasRaised : List End → ℕ × ℕ → Type 0
WasRaised all pair = Contains (flat_map (λ end. end.state.raised) all) pair

-- the session stood at this mark
abbrev pub StoodAt : List End → ℕ × ℕ → Type 0
StoodAt all pair = Any (λ end. (end.session ≡ pair.0) × Contains end.state.marks pair.1) all

-- the journal and the traces are a legal run of the scenario
pub record Legal (scenario : Scenario) (settings : Settings) (journal : List Tx) (traces : List Trace) : Type 0 where
  -- each session's trace is lawful
  pub lawful : EachTrace settings (λ terms trace. TraceOk terms trace journal) scenario.sections traces
  -- no read was left out
  pub fresh : EachTrace settings (λ terms trace. Fresh terms trace journal) scenario.sections traces
  -- the journal has each session's finished transactions once and in its order
  pub own : EachTrace settings (λ terms trace. finished_xids trace.items ≡ xids_of terms.section.no journal) scenario.sections traces
  -- each transaction of the journal is finished
  pub finished : All IsFinished journal
  -- each transaction of the journal is some session's
  pub named : All (λ tx. names_section scenario.sections tx.session ≡ true) journal
  -- each full queue was full
  pub full : All (λ trace. All (IsFullThere settings journal) trace.items) traces
  -- each number with which a flag was found is one with which it was raised
  pub found : All (WasRaised (ends settings scenario.sections traces)) (flat_map (λ end. end.state.found) (ends settings scenario.sections traces))
  -- each session that is named as a holder stood at the floor mark
  pub holders : All (StoodAt (ends settings scenario.sections traces)) (flat_map (λ end. end.state.named) (ends settings scenario.sections traces))
  -- no number is shown that is past 3 and the journal's length
  pub shown : All (λ trace. All (IsShownWithin (next_xid journal)) trace.items) traces
  -- a session that still listens at the end has read the whole journal
  pub read_all : All (λ trace. IfSome trace.last (λ mark. mark ≡ next_xid journal)) traces
