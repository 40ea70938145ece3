-- What the sessions of a scenario are given: seats, passes and scripts.
use Rattle.std.specs.Prelude.{◌≡◌, ℕ, ◌+◌, ◌≤◌, List, length, ◌++◌, map, All}
use Rattle.pgn_hub.specs.declared.known.Known.{Known}
use Rattle.pgn_base.specs.declared.format.Format.{Format}
use Rattle.pgn_language.specs.declared.scenario.Scenario.{Scenario}
use Rattle.pgn_language.specs.declared.scenario.Section.{Section}
use Rattle.pgn_hub.specs.declared.setup.SeatSetup.{SeatSetup}
use Rattle.pgn_hub.specs.Shape.{Shape}
use Rattle.pgn_language.specs.Inputs.{IsSound, QuitsLast, note_lines_of}
use Rattle.pgn_hub.specs.Passes.{opened_pass}
use Rattle.pgn_session.specs.declared.doing.FlagPlan.{FlagPlan}
use Rattle.pgn_session.specs.declared.session.Session.{Session}
use Rattle.pgn_session.specs.Whole.{HasRest}
use Rattle.pgn_session.specs.Runs.{Script, script_of}

-- the seat of a section
abbrev pub seat_for : Section → SeatSetup
seat_for section = record { db = section.db; notes = section.note_lines }

-- the pass of its session as the hub is opened
abbrev pub opened_for : Section → Known
opened_for section = opened_pass section.no (seat_for section)

-- what its session is to run
abbrev pub script_for : FlagPlan → ℕ → Section → Script
script_for plan patience section = record { section = section; plan = plan; patience = patience }

-- a session can be made for the section: a quit is only its last line, and its lines that notify are counted
pub record IsFit (section : Section) : Type 0 where
  pub quits_last : QuitsLast section.lines
  pub counted : note_lines_of section.lines ≤ section.note_lines

-- sessions were made for the first sections, and these sections and passes are left
pub record HaveOpened {P : Type 0} (known : P → Known) (plan : FlagPlan) (patience : ℕ) (sections done left : List Section) (passes over : List P) (sessions : List (Session P)) : Type 0 where
  pub cut : done ++ left ≡ sections
  pub fit : All IsFit left
  pub whole : map (λ s. s.pass) sessions ++ over ≡ passes
  pub rest : map known over ≡ map opened_for left
  pub scripts : map script_of sessions ≡ map (script_for plan patience) done
  pub rested : (shape : Shape) → All (HasRest shape known) sessions

-- the scenario of these sections and flags
abbrev pub scenario_of : List Section → List (List ℕ) → Scenario
scenario_of sections flags = record { sections = sections; flags = flags }

-- the flags that the scripts name come first, and then an end flag for each session
abbrev pub plan_for : Scenario → FlagPlan
plan_for scenario = record { first_end = length scenario.flags; sessions = length scenario.sections }

-- what the hub is opened for: so many pages, a seat for each section, these flags, and entries of this format
abbrev pub shape_for : Scenario → ℕ → Format → Shape
shape_for scenario pages format = record { format = format; pages = pages; flags = length scenario.flags + length scenario.sections; seats = map seat_for scenario.sections }

-- the hub was opened for the scenario, and the sessions are those of its sections
pub record AreOpenedFor {P : Type 0} (scenario : Scenario) (pages patience : ℕ) (format : Format) (shape : Shape) (sessions : List (Session P)) : Type 0 where
  pub sound : IsSound scenario
  pub opened : shape ≡ shape_for scenario pages format
  pub scripts : map script_of sessions ≡ map (script_for (plan_for scenario) patience) scenario.sections
