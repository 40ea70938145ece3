-- Which lines of a text are to blame that it is the output of no legal run.
use Rattle.std.specs.Prelude.{◌≡◌, ℕ, ◌+◌, ◌≤◌, ◌⊎◌, true, List, [], ◌∷◌, ◌++◌, length, flat_map, Some, IfSome, slice_get, All, Contains}
use Rattle.pgn_base.specs.declared.limits.TheConstants.{FIRST_XID}
use Rattle.pgn_journal.specs.declared.tx.Tx.{Tx}
use Rattle.pgn_journal.specs.Journal.{next_xid, IsFinished, xids_of}
use Rattle.pgn_answers.specs.declared.block_state.BlockState.TheVariants.{Idle}
use Rattle.pgn_language.specs.declared.scenario.Section.{Section}
use Rattle.pgn_language.specs.declared.scenario.Scenario.{Scenario}
use Rattle.pgn_model.specs.declared.item.Item.{Item}
use Rattle.pgn_model.specs.declared.trace.Trace.{Trace}
use Rattle.pgn_model.specs.Walk.{Settings, Terms, State, start, Allowed}
use Rattle.pgn_model.specs.Trace.{IsLawful, IsEnd, IsUpToDate, IsFreshAt}
use Rattle.pgn_model.specs.Legal.{Legal, finished_xid, finished_xids, names_section, IsShownWithin, IsFullThere}
use Rattle.pgn_model.specs.Text.{text, item_lines, journal_lines, entries_lines, trace_lines}
use Rattle.pgn_reading.specs.Completed.{ready, whole, walked, completed}
use Rattle.pgn_reading.specs.Form.{IsReading, BreaksForm}
use Rattle.pgn_reading.specs.Shown.{named_shown, raised_in, found_shown, ShowsMark}

-- An entry of the journal.

-- a transaction is finished and some section's
pub record IsGoodTx (sections : List Section) (tx : Tx) : Type 0 where
  pub finished : IsFinished tx
  pub named : names_section sections tx.session ≡ true

-- the first line of a transaction that is not finished or no section's is to blame
pub data BlamesEntry (sections : List Section) (journal : List Tx) : ℕ → Type 0 where
  BadEntry : (before after : List Tx) → (tx : Tx) → journal ≡ before ++ tx ∷ after → (IsGoodTx sections tx → ⊥)
      → BlamesEntry sections journal (length (entries_lines FIRST_XID before) + 2)

-- A section with its trace.

-- the walk has come past these items that were read, to this state
pub record Comes (terms : Terms) (journal : List Tx) (before : List Item) (s : State) : Type 0 where
  pub lawful : IsLawful terms journal (completed (start terms.section) before)
  pub state : walked (start terms.section) before ≡ s

-- a transaction that an item shows as finished is the session's next, after those that these items show
abbrev pub IsNextOwn : Section → List Tx → List Item → Item → Type 0
IsNextOwn section journal before item = IfSome (finished_xid item) (λ x. slice_get (xids_of section.no journal) (length (finished_xids before)) ≡ Some x)

-- what the journal and all traces have to bear out of an item, in the state before it
pub record IsBorneOut (settings : Settings) (sections : List Section) (journal : List Tx) (traces : List Trace) (s : State) (item : Item) : Type 0 where
  -- a full queue was full
  pub full : IsFullThere settings journal item
  -- a number with which a flag is found is one with which some session raised it
  pub found : All (Contains (raised_in sections traces)) (found_shown s.owed item)
  -- a session that is named as a holder stood at the floor mark
  pub holder : All (ShowsMark traces) (named_shown item)
  -- no number is past 3 and the journal's length
  pub within : IsShownWithin (next_xid journal) item

-- the first line after these items of a section whose head is the line numbered `head`
abbrev pub line_after : ℕ → Section → List Item → ℕ
line_after head section before = head + length (flat_map (item_lines section.lines) before) + 1

-- the last line of these items, or the head where they have none
abbrev pub last_line : ℕ → Section → List Item → ℕ
last_line head section before = head + length (flat_map (item_lines section.lines) before)

-- no block is open, or no script line is left
abbrev pub IsAtRest : State → Type 0
IsAtRest s = (s.block ≡ Idle) ⊎ (s.rest ≡ [])

-- nothing is missing at the end of a trace: the script is done, each transaction of the session was shown, and a session that still
-- listens has read the whole journal
pub record IsWhole (section : Section) (journal : List Tx) (trace : Trace) (s : State) : Type 0 where
  pub ended : IsEnd s trace.last
  pub own : length (xids_of section.no journal) ≤ length (finished_xids trace.items)
  pub read_all : IfSome trace.last (λ mark. mark ≡ next_xid journal)

-- the lines that are to blame in a section whose head is the line numbered `head`, among all sections and traces
pub data BlamesTrace (terms : Terms) (journal : List Tx) (sections : List Section) (traces : List Trace) (head : ℕ) (trace : Trace) : ℕ → Type 0 where
  -- the first line of an item that is not allowed
  Refused : (before after : List Item) → (item : Item) → (s : State) → trace.items ≡ before ++ item ∷ after → Comes terms journal before s
      → (Allowed terms journal (ready s) (whole s item) → ⊥) → BlamesTrace terms journal sections traces head trace (line_after head terms.section before)
  -- the last line before a script line, where the one before it left a read out
  LeftOut : (before after : List Item) → (item : Item) → (s : State) → trace.items ≡ before ++ item ∷ after → Comes terms journal before s
      → (IsFreshAt terms journal (ready s) item → ⊥) → BlamesTrace terms journal sections traces head trace (last_line head terms.section before)
  -- the first line of an item that shows another transaction than the session's next
  NotNext : (before after : List Item) → (item : Item) → (s : State) → trace.items ≡ before ++ item ∷ after → Comes terms journal before s
      → (IsNextOwn terms.section journal before item → ⊥) → BlamesTrace terms journal sections traces head trace (line_after head terms.section before)
  -- the first line of an item that the journal and all traces do not bear out
  Unfounded : (before after : List Item) → (item : Item) → (s : State) → trace.items ≡ before ++ item ∷ after → Comes terms journal before s
      → (IsBorneOut terms.settings sections journal traces (ready s) item → ⊥) → BlamesTrace terms journal sections traces head trace (line_after head terms.section before)
  -- the last line before the end, where the last script line left a read out
  LeftOutLast : (s : State) → Comes terms journal trace.items s → IsAtRest s → (IsUpToDate terms journal s → ⊥)
      → BlamesTrace terms journal sections traces head trace (last_line head terms.section trace.items)
  -- the end, where something is missing
  Unfinished : (s : State) → Comes terms journal trace.items s → (IsWhole terms.section journal trace s → ⊥)
      → BlamesTrace terms journal sections traces head trace (line_after head terms.section trace.items)

-- the lines that are to blame in sections of which the first has its head in the line numbered `head`, among all sections and traces
abbrev pub BlamesTraces : Settings → List Tx → List Section → List Trace → ℕ → List Section → List Trace → ℕ → Type 0
BlamesTraces settings journal all all_traces head [] traces n = ⊥
BlamesTraces settings journal all all_traces head (section ∷ sections) [] n = ⊥
BlamesTraces settings journal all all_traces head (section ∷ sections) (trace ∷ traces) n =
    BlamesTrace (record { section = section; settings = settings }) journal all all_traces head trace n
    ⊎ BlamesTraces settings journal all all_traces (head + length (trace_lines section trace)) sections traces n

-- The whole text.

-- the lines of a text that are to blame that it is the output of no legal run
pub data Blames (scenario : Scenario) (settings : Settings) (out : List ℕ) : ℕ → Type 0 where
  InForm : (n : ℕ) → BreaksForm scenario out n → Blames scenario settings out n
  InEntry : (n : ℕ) → (journal : List Tx) → (traces : List Trace) → IsReading scenario out journal traces → BlamesEntry scenario.sections journal n → Blames scenario settings out n
  InTrace : (n : ℕ) → (journal : List Tx) → (traces : List Trace) → IsReading scenario out journal traces
      → BlamesTraces settings journal scenario.sections traces (length (journal_lines journal) + 1) scenario.sections traces n → Blames scenario settings out n

-- the first of the lines that are to blame
pub record IsLeastBlamed (scenario : Scenario) (settings : Settings) (out : List ℕ) (n : ℕ) : Type 0 where
  pub blamed : Blames scenario settings out n
  pub least : (m : ℕ) → Blames scenario settings out m → n ≤ m

-- a text is the output of a legal run
pub record IsLegalText (scenario : Scenario) (settings : Settings) (out : List ℕ) : Type 0 where
  pub journal : List Tx
  pub traces : List Trace
  pub legal : Legal scenario settings journal traces
  pub shown : text scenario journal traces ≡ out
