-- A service: the clients of seats, on one queue.
use Rattle.std.specs.Prelude.{◌≡◌, ◌⊎◌, ℕ, ◌+◌, ◌-◌, ◌/◌, List, [], ◌∷◌, ◌++◌, length, map, get_or, flat_map, codes, decimal, Option, All}
use Rattle.pgn_base.specs.declared.format.Format.TheVariants.{One}
use Rattle.pgn_base.specs.declared.limits.TheConstants.{HUB_NOTES_MAX, PAGES_DEFAULT}
use Rattle.pgn_journal.specs.declared.tx.Tx.{Tx}
use Rattle.pgn_language.specs.declared.scenario.Scenario.{Scenario}
use Rattle.pgn_language.specs.declared.scenario.ScriptLine.{ScriptLine}
use Rattle.pgn_language.specs.declared.scenario.Section.{Section}
use Rattle.pgn_model.specs.declared.item.Item.{Item}
use Rattle.pgn_model.specs.declared.item.Item.TheVariants.{Line}
use Rattle.pgn_model.specs.declared.trace.Trace.{Trace}
use Rattle.pgn_model.specs.Walk.{Settings, State}
use Rattle.pgn_model.specs.Legal.{Legal}
use Rattle.pgn_model.specs.laws.NextLine.{HoldsSoFar}
use Rattle.pgn_messages.specs.declared.asked.Ask.{Ask}
use Rattle.pgn_messages.specs.Asks.{lines_for, script_of, seat_quit}
use Rattle.pgn_messages.specs.Turns.{IsRead, MayBeTold}
use Rattle.pgn_frames.specs.declared.frame_fault.FrameFault.{FrameFault}
use Rattle.pgn_frames.specs.Clients.{SeatAsks, first_tally}
use Rattle.pgn_frames.specs.Frames.{Frame, FramesAre, IsFrame, IsSeat, frame_bytes, signs_of}

-- how many notifications each of so many seats may send, for all of its clients together: an equal part of what a hub lets all send
abbrev pub seat_notes : ℕ → ℕ
seat_notes seats = HUB_NOTES_MAX / seats

-- the section of a seat with this script: it is of database 1
abbrev pub seat_section : ℕ → ℕ → List ScriptLine → Section
seat_section seats seat lines = record { no = seat; name = codes "seat" ++ decimal seat; db = 1; lines = lines; note_lines = seat_notes seats }

-- the sections of seats from this number on that are asked these
abbrev pub sections_from : ℕ → ℕ → List (List Ask) → List Section
sections_from seats seat [] = []
sections_from seats seat (asks ∷ others) = seat_section seats seat (script_of asks) ∷ sections_from seats (seat + 1) others

-- the scenario of a service of so many seats, each of which is asked these
abbrev pub service_scenario : List (List Ask) → Scenario
service_scenario asks = record { sections = sections_from (length asks) 1 asks; flags = [] }

-- what a seat is asked, and the items of its trace
abbrev pub asks_at : List (List Ask) → ℕ → List Ask
asks_at asks seat = get_or asks (seat - 1) []

abbrev pub items_at : List Trace → ℕ → List Item
items_at traces seat = get_or (map (λ trace. trace.items) traces) (seat - 1) []

-- the settings of a service, which has no words for them
abbrev pub service_settings : Settings
service_settings = record { format = One; limit = PAGES_DEFAULT; patience = 1 }

-- what the clients of a seat with this number are told of a trace that is done: of all but the `\quit` at its end, behind which nothing is read
pub record IsToldOf (seat : ℕ) (asks : List Ask) (trace : List Item) (signs : List (Option ℕ)) : Type 0 where
  pub items : List Item
  pub more : List Item
  pub split : trace ≡ items ++ Line seat_quit.line ∷ more
  pub unread : All (λ item. IsRead item → ⊥) more
  pub told : MayBeTold seat asks items signs

-- these frames were read, each of so many seats is asked by all that is its own of them, there is a legal run of what all seats are asked, and
-- P holds of frames that tell each seat's clients of it, and nobody else anything
pub record RunsSeats (seats : ℕ) (frames : List Frame) (P : List ℕ → Type 0) : Type 0 where
  pub asks : List (List Ask)
  pub each : length asks ≡ seats
  pub asked : (seat : ℕ) → IsSeat seats seat → SeatAsks (first_tally (seat_notes seats)) (signs_of seat frames) (asks_at asks seat)
  pub journal : List Tx
  pub traces : List Trace
  pub legal : Legal (service_scenario asks) service_settings journal traces
  pub outs : List Frame
  pub can_be_written : All (IsFrame 256) outs
  pub told : (seat : ℕ) → IsSeat seats seat → IsToldOf seat (asks_at asks seat) (items_at traces seat) (signs_of seat outs)
  pub nobody_else : (seat : ℕ) → (IsSeat seats seat → ⊥) → signs_of seat outs ≡ []
  pub output : P (flat_map frame_bytes outs)

-- the input's frames end so: by this fault, or without; and all of them were served
pub record ServesAll (seats : ℕ) (bytes : List ℕ) (fault : Option FrameFault) (P : List ℕ → Type 0) : Type 0 where
  pub frames : List Frame
  pub are : FramesAre seats 0 bytes frames fault
  pub served : RunsSeats seats frames P

-- the first of them were
pub record ServesFirst (seats : ℕ) (bytes : List ℕ) (P : List ℕ → Type 0) : Type 0 where
  pub frames : List Frame
  pub more : List Frame
  pub fault : Option FrameFault
  pub are : FramesAre seats 0 bytes (frames ++ more) fault
  pub served : RunsSeats seats frames P

-- whole turns of a seat's session were told, those that were asked for first, of a trace that is lawful so far, over some journal
pub record IsToldFirst (seats seat : ℕ) (asks : List Ask) (signs : List (Option ℕ)) : Type 0 where
  pub first : List Ask
  pub others : List Ask
  pub asked : asks ≡ first ++ others
  pub items : List Item
  pub more : List Item
  pub rest : List ScriptLine
  pub journal : List Tx
  pub state : State
  pub holds : HoldsSoFar (record { section = seat_section seats seat (flat_map lines_for first ++ rest); settings = service_settings }) journal (items ++ more) state
  pub told : MayBeTold seat first items signs

-- the frame that says that a service is over before its input: it is of no seat
abbrev pub over_frame : List ℕ
over_frame = 0 ∷ 0 ∷ 0 ∷ 0 ∷ []

-- the first of the input's frames were read, and P holds of frames that tell each seat's clients whole turns of what is asked by them, and nobody
-- else anything, and of what may stand behind them
pub record StopsServing (seats : ℕ) (bytes : List ℕ) (P : List ℕ → Type 0) : Type 0 where
  pub frames : List Frame
  pub others : List Frame
  pub fault : Option FrameFault
  pub are : FramesAre seats 0 bytes (frames ++ others) fault
  pub asks : List (List Ask)
  pub each : length asks ≡ seats
  pub asked : (seat : ℕ) → IsSeat seats seat → SeatAsks (first_tally (seat_notes seats)) (signs_of seat frames) (asks_at asks seat)
  pub outs : List Frame
  pub can_be_written : All (IsFrame 256) outs
  pub told : (seat : ℕ) → IsSeat seats seat → IsToldFirst seats seat (asks_at asks seat) (signs_of seat outs)
  pub nobody_else : (seat : ℕ) → (IsSeat seats seat → ⊥) → signs_of seat outs ≡ []
  pub output : P (flat_map frame_bytes outs) ⊎ P (flat_map frame_bytes outs ++ over_frame)

-- the first of the input's frames were served, whole or until memory did not suffice
abbrev pub ServesInPart : ℕ → List ℕ → (List ℕ → Type 0) → Type 0
ServesInPart seats bytes P = ServesFirst seats bytes P ⊎ StopsServing seats bytes P
