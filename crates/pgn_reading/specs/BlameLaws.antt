-- Laws of blame: where the lines lie that are to blame, and that the first blame that is met is the least.
use Rattle.std.specs.Prelude.{◌≡◌, ℕ, ◌+◌, ◌<◌, ◌≤◌, ◌⊎◌, List, [], ◌∷◌, ◌++◌, length, All}
use Rattle.pgn_base.specs.declared.limits.TheConstants.{FIRST_XID}
use Rattle.pgn_journal.specs.declared.tx.Tx.{Tx}
use Rattle.pgn_language.specs.declared.scenario.Section.{Section}
use Rattle.pgn_language.specs.declared.scenario.Scenario.{Scenario}
use Rattle.pgn_language.specs.Inputs.{IsSound}
use Rattle.pgn_model.specs.declared.item.Item.{Item}
use Rattle.pgn_model.specs.declared.trace.Trace.{Trace}
use Rattle.pgn_model.specs.Walk.{Settings, Terms, State}
use Rattle.pgn_model.specs.Trace.{IsUpToDate, IsFreshAt}
use Rattle.pgn_model.specs.Text.{journal_lines, entries_lines, trace_lines, traces_lines}
use Rattle.pgn_reading.specs.Completed.{ready}
use Rattle.pgn_reading.specs.Form.{IsReadTrace, EachSection, IsReading, BreaksForm}
use Rattle.pgn_reading.specs.Blame.{IsGoodTx, BlamesEntry, Comes, IsNextOwn, IsBorneOut, line_after, last_line, IsAtRest, IsWhole, BlamesTrace, BlamesTraces, IsLeastBlamed}

-- An item that is allowed.

-- no read was left out before an item, it shows the session's next transaction, and the journal and all traces bear it out
pub record IsSpotless (terms : Terms) (journal : List Tx) (sections : List Section) (traces : List Trace) (before : List Item) (s : State) (item : Item) : Type 0 where
  pub fresh : IsFreshAt terms journal (ready s) item
  pub next : IsNextOwn terms.section journal before item
  pub borne_out : IsBorneOut terms.settings sections journal traces (ready s) item

-- so it is of each of these items
abbrev pub AreSpotless : Terms → List Tx → List Section → List Trace → List Item → Type 0
AreSpotless terms journal sections traces items = (before after : List Item) (item : Item) (s : State) → items ≡ before ++ item ∷ after → Comes terms journal before s
    → IsSpotless terms journal sections traces before s item

-- so it is of no item
abbrev pub SpotlessFirst : Type 0
SpotlessFirst = (terms : Terms) (journal : List Tx) (sections : List Section) (traces : List Trace) → AreSpotless terms journal sections traces []

-- and of one item more
abbrev pub SpotlessOn : Type 0
SpotlessOn = (terms : Terms) (journal : List Tx) (sections : List Section) (traces : List Trace) (before : List Item) (item : Item) (s : State) → Comes terms journal before s
    → AreSpotless terms journal sections traces before → IsSpotless terms journal sections traces before s item → AreSpotless terms journal sections traces (before ++ item ∷ [])

-- The lines of a section.

-- what is to blame in a section is one of its lines, and not its head
abbrev pub BlamedWithin : Type 0
BlamedWithin = (terms : Terms) (journal : List Tx) (sections : List Section) (traces : List Trace) (head : ℕ) (trace : Trace) (n : ℕ) → IsReadTrace terms.section trace
    → BlamesTrace terms journal sections traces head trace n → (head < n) × (n < head + length (trace_lines terms.section trace))

-- where the walk has come to an item, and none before it is to blame, nothing is before the last line before it
abbrev pub BlamedFromBefore : Type 0
BlamedFromBefore = (terms : Terms) (journal : List Tx) (sections : List Section) (traces : List Trace) (head : ℕ) (trace : Trace) (before after : List Item) (item : Item) (s : State) (n : ℕ)
    → trace.items ≡ before ++ item ∷ after → Comes terms journal before s → AreSpotless terms journal sections traces before
    → BlamesTrace terms journal sections traces head trace n → last_line head terms.section before ≤ n

-- where no read was left out before it either, nothing is before its first line
abbrev pub BlamedFromItem : Type 0
BlamedFromItem = (terms : Terms) (journal : List Tx) (sections : List Section) (traces : List Trace) (head : ℕ) (trace : Trace) (before after : List Item) (item : Item) (s : State) (n : ℕ)
    → IsReadTrace terms.section trace → trace.items ≡ before ++ item ∷ after → Comes terms journal before s → AreSpotless terms journal sections traces before
    → IsFreshAt terms journal (ready s) item → BlamesTrace terms journal sections traces head trace n → line_after head terms.section before ≤ n

-- where the walk has come past all items, and none is to blame, nothing is before the last line before the end
abbrev pub BlamedFromLast : Type 0
BlamedFromLast = (terms : Terms) (journal : List Tx) (sections : List Section) (traces : List Trace) (head : ℕ) (trace : Trace) (s : State) (n : ℕ) → Comes terms journal trace.items s
    → AreSpotless terms journal sections traces trace.items → BlamesTrace terms journal sections traces head trace n → last_line head terms.section trace.items ≤ n

-- where no read was left out there either, nothing is before the end
abbrev pub BlamedFromEnd : Type 0
BlamedFromEnd = (terms : Terms) (journal : List Tx) (sections : List Section) (traces : List Trace) (head : ℕ) (trace : Trace) (s : State) (n : ℕ) → Comes terms journal trace.items s
    → AreSpotless terms journal sections traces trace.items → (IsAtRest s → IsUpToDate terms journal s) → BlamesTrace terms journal sections traces head trace n
    → line_after head terms.section trace.items ≤ n

-- and where nothing is missing, nothing is to blame
abbrev pub NothingBlamed : Type 0
NothingBlamed = (terms : Terms) (journal : List Tx) (sections : List Section) (traces : List Trace) (head : ℕ) (trace : Trace) (s : State) (n : ℕ) → Comes terms journal trace.items s
    → AreSpotless terms journal sections traces trace.items → (IsAtRest s → IsUpToDate terms journal s) → IsWhole terms.section journal trace s
    → BlamesTrace terms journal sections traces head trace n → ⊥

-- All sections.

-- what is to blame in sections lies behind the head of the first
abbrev pub BlamedBehind : Type 0
BlamedBehind = (settings : Settings) (journal : List Tx) (all : List Section) (all_traces : List Trace) (head : ℕ) (sections : List Section) (traces : List Trace) (n : ℕ) → EachSection IsReadTrace sections traces
    → BlamesTraces settings journal all all_traces head sections traces n → head < n

-- what is the least in the first section is the least in all
abbrev pub LeastInFirst : Type 0
LeastInFirst = (settings : Settings) (journal : List Tx) (all : List Section) (all_traces : List Trace) (head : ℕ) (section : Section) (sections : List Section) (trace : Trace) (traces : List Trace) (n : ℕ)
    → EachSection IsReadTrace (section ∷ sections) (trace ∷ traces) → BlamesTrace (record { section = section; settings = settings }) journal all all_traces head trace n
    → ((m : ℕ) → BlamesTrace (record { section = section; settings = settings }) journal all all_traces head trace m → n ≤ m)
    → (m : ℕ) → BlamesTraces settings journal all all_traces head (section ∷ sections) (trace ∷ traces) m → n ≤ m

-- what is to blame in sections is so in the first of them or in the others
abbrev pub BlamedApart : Type 0
BlamedApart = (settings : Settings) (journal : List Tx) (all : List Section) (all_traces : List Trace) (head : ℕ) (front back : List Section) (done left : List Trace) (n : ℕ) → length front ≡ length done
    → BlamesTraces settings journal all all_traces head (front ++ back) (done ++ left) n
    → BlamesTraces settings journal all all_traces head front done n ⊎ BlamesTraces settings journal all all_traces (head + length (traces_lines front done)) back left n

-- and what is to blame in the others is so in all
abbrev pub BlamedLater : Type 0
BlamedLater = (settings : Settings) (journal : List Tx) (all : List Section) (all_traces : List Trace) (head : ℕ) (front back : List Section) (done left : List Trace) (n : ℕ) → length front ≡ length done
    → BlamesTraces settings journal all all_traces (head + length (traces_lines front done)) back left n → BlamesTraces settings journal all all_traces head (front ++ back) (done ++ left) n

-- The journal.

-- what is to blame in a journal is one of its lines, and not the first
abbrev pub EntryWithin : Type 0
EntryWithin = (sections : List Section) (journal : List Tx) (n : ℕ) → BlamesEntry sections journal n → (1 < n) × (n ≤ length (journal_lines journal))

-- where the transactions before one are as they have to be, nothing is before its first line
abbrev pub EntryFrom : Type 0
EntryFrom = (sections : List Section) (journal before after : List Tx) (tx : Tx) (n : ℕ) → journal ≡ before ++ tx ∷ after → All (IsGoodTx sections) before → BlamesEntry sections journal n
    → length (entries_lines FIRST_XID before) + 2 ≤ n

-- where all are, nothing in the journal is to blame
abbrev pub NoEntryBlamed : Type 0
NoEntryBlamed = (sections : List Section) (journal : List Tx) (n : ℕ) → All (IsGoodTx sections) journal → BlamesEntry sections journal n → ⊥

-- The whole text.

-- a text that is read breaks the form in no line
abbrev pub ReadingHasForm : Type 0
ReadingHasForm = (scenario : Scenario) (out : List ℕ) (journal : List Tx) (traces : List Trace) (n : ℕ) → IsSound scenario → IsReading scenario out journal traces → BreaksForm scenario out n → ⊥

-- the line that breaks the form is the one that is to blame
abbrev pub LeastInForm : Type 0
LeastInForm = (scenario : Scenario) (settings : Settings) (out : List ℕ) (n : ℕ) → IsSound scenario → BreaksForm scenario out n → IsLeastBlamed scenario settings out n

-- where a text is read, and the transactions before one are as they have to be and this is not, its first line is the first that is to blame
abbrev pub LeastInJournal : Type 0
LeastInJournal = (scenario : Scenario) (settings : Settings) (out : List ℕ) (journal before after : List Tx) (tx : Tx) (traces : List Trace) → IsSound scenario → IsReading scenario out journal traces
    → journal ≡ before ++ tx ∷ after → All (IsGoodTx scenario.sections) before → (IsGoodTx scenario.sections tx → ⊥) → IsLeastBlamed scenario settings out (length (entries_lines FIRST_XID before) + 2)

-- where all are, the least that is to blame in a section is the first
abbrev pub LeastInTraces : Type 0
LeastInTraces = (scenario : Scenario) (settings : Settings) (out : List ℕ) (journal : List Tx) (traces : List Trace) (n : ℕ) → IsSound scenario → IsReading scenario out journal traces
    → All (IsGoodTx scenario.sections) journal → BlamesTraces settings journal scenario.sections traces (length (journal_lines journal) + 1) scenario.sections traces n
    → ((m : ℕ) → BlamesTraces settings journal scenario.sections traces (length (journal_lines journal) + 1) scenario.sections traces m → n ≤ m) → IsLeastBlamed scenario settings out n
