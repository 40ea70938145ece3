-- A client's conversation with a queue of its own.
use Rattle.std.specs.Prelude.{◌≡◌, ℕ, List, [], ◌∷◌, ◌++◌, Option, None, Some, Result, Ok, Err, All}
use Rattle.std.specs.Io.KnownBytes.{Appends}
use Rattle.pgn_base.specs.Outside.{AppendsPrefix}
use Rattle.pgn_base.specs.declared.format.Format.TheVariants.{One}
use Rattle.pgn_base.specs.declared.limits.TheConstants.{NOTE_LINES_MAX, PAGES_DEFAULT}
use Rattle.pgn_journal.specs.declared.tx.Tx.{Tx}
use Rattle.pgn_answers.specs.declared.block_state.BlockState.TheVariants.{Idle}
use Rattle.pgn_language.specs.declared.scenario.ScriptLine.{ScriptLine}
use Rattle.pgn_language.specs.declared.scenario.Section.{Section}
use Rattle.pgn_language.specs.Inputs.{HasFlagBelow}
use Rattle.pgn_model.specs.declared.item.Item.{Item}
use Rattle.pgn_model.specs.declared.trace.Trace.{Trace}
use Rattle.pgn_model.specs.Walk.{Settings, State, Terms, Nothing}
use Rattle.pgn_model.specs.Legal.{Legal}
use Rattle.pgn_model.specs.Trace.{IsUpToDate}
use Rattle.pgn_model.specs.laws.NextLine.{HoldsSoFar}
use Rattle.pgn_hub.specs.declared.setup.SeatSetup.{SeatSetup}
use Rattle.pgn_hub.specs.Shape.{Shape}
use Rattle.pgn_session.specs.declared.doing.FlagPlan.{FlagPlan}
use Rattle.pgn_queries.specs.declared.wire_fault.WireFault.{WireFault}
use Rattle.pgn_queries.specs.Queries.{queries}
use Rattle.pgn_queries.specs.Script.{wire_quit, wire_scenario, wire_section}
use Rattle.pgn_messages.specs.Messages.{messages}
use Rattle.pgn_wire.specs.declared.wire_end.WireEnd.{WireEnd}
use Rattle.pgn_wire.specs.declared.wire_end.WireEnd.TheVariants.{Bad, Read, Write, Memory}
use Rattle.pgn_wire.specs.Serving.{WroteWhole}

-- the section of the session of a client that asked these queries so far: it may notify as often as a client may ask
abbrev pub session_section : List ScriptLine → Section
session_section lines = record (wire_section lines) { note_lines = NOTE_LINES_MAX }

-- the settings that a client has no words for, and what its lines are judged by
abbrev pub wire_settings : Settings
wire_settings = record { format = One; limit = PAGES_DEFAULT; patience = 1 }

abbrev pub wire_terms : List ScriptLine → Terms
wire_terms lines = record { section = wire_section lines; settings = wire_settings }

-- the client's seat
abbrev pub wire_seat : SeatSetup
wire_seat = record { db = 1; notes = NOTE_LINES_MAX }

-- what the hub is opened for
abbrev pub wire_shape : Shape
wire_shape = record { pages = PAGES_DEFAULT; flags = 1; seats = wire_seat ∷ []; format = One }

abbrev pub wire_plan : FlagPlan
wire_plan = record { first_end = 0; sessions = 1 }

-- no line of the section names a flag
abbrev pub NamesNoFlags : Section → Type 0
NamesNoFlags section = All (λ line. HasFlagBelow 0 line.act) section.lines

-- these items are the trace of a legal run of the one section, over some journal
pub record RunsLegally (section : Section) (items : List Item) : Type 0 where
  pub journal : List Tx
  pub trace : Trace
  pub shown : trace.items ≡ items
  pub legal : Legal (record { sections = section ∷ []; flags = [] }) wire_settings journal (trace ∷ [])

-- the client asked these queries and ended, and P holds of the messages of a legal run of them
pub record Converses (bytes : List ℕ) (P : List ℕ → Type 0) : Type 0 where
  pub lines : List ScriptLine
  pub journal : List Tx
  pub trace : Trace
  pub reads : queries NOTE_LINES_MAX bytes lines None
  pub legal : Legal (wire_scenario lines) wire_settings journal (trace ∷ [])
  pub output : P (messages (wire_section lines) trace.items)

-- P holds of items that are lawful so far, for a client that asked these queries, over some journal
pub record IsSoFar (lines : List ScriptLine) (P : List Item → Type 0) : Type 0 where
  pub journal : List Tx
  pub items : List Item
  pub state : State
  pub holds : HoldsSoFar (wire_terms lines) journal items state
  pub output : P items

-- besides, each of these queries has its whole answer, and no read was left out: nothing is to come but the end
pub record IsAnsweredSoFar (lines : List ScriptLine) (P : List Item → Type 0) : Type 0 where
  pub journal : List Tx
  pub items : List Item
  pub state : State
  pub holds : HoldsSoFar (wire_terms lines) journal items state
  pub rest : state.rest ≡ wire_quit ∷ []
  pub answered : state.owed ≡ Nothing
  pub up_to_date : state.block ≡ Idle → IsUpToDate (wire_terms lines) journal state
  pub output : P items

-- the client asked these queries, and then its bytes are at fault; P holds of the messages of a trace that answers them all
pub record BreaksOff (bytes : List ℕ) (fault : WireFault) (P : List ℕ → Type 0) : Type 0 where
  pub lines : List ScriptLine
  pub reads : queries NOTE_LINES_MAX bytes lines (Some fault)
  pub so_far : IsAnsweredSoFar lines (λ items. P (messages (wire_section lines) items))

-- the client asked these queries first, of those that its bytes are; P holds of the messages of a trace that answers them all
pub record StopsBetween (bytes : List ℕ) (P : List ℕ → Type 0) : Type 0 where
  pub lines : List ScriptLine
  pub more : List ScriptLine
  pub fault : Option WireFault
  pub reads : queries NOTE_LINES_MAX bytes (lines ++ more) fault
  pub so_far : IsAnsweredSoFar lines (λ items. P (messages (wire_section lines) items))

-- the client asked these queries first, of those that its bytes are; P holds of its section and of a trace that is lawful so far
pub record StopsAmong (bytes : List ℕ) (P : Section → List Item → Type 0) : Type 0 where
  pub lines : List ScriptLine
  pub more : List ScriptLine
  pub fault : Option WireFault
  pub reads : queries NOTE_LINES_MAX bytes (lines ++ more) fault
  pub so_far : IsSoFar lines (P (wire_section lines))

-- by how a conversation ended: what the client asked, and what stands written
abbrev pub EndsBy : {T : Type 0} → Result T WireEnd → List ℕ → Option (List ℕ) → Option (List ℕ) → Type 0
EndsBy (Ok x) bytes old new = Converses bytes (Appends old new)
EndsBy (Err (Bad fault)) bytes old new = BreaksOff bytes fault (Appends old new)
EndsBy (Err Read) bytes old new = StopsBetween bytes (Appends old new)
EndsBy (Err Write) bytes old new = StopsAmong bytes (λ section items. AppendsPrefix old new (messages section items))
EndsBy (Err Memory) bytes old new = StopsAmong bytes (WroteWhole old new)
