-- What an input reads as, computed, and the laws of lines and of inputs.
use Rattle.std.specs.Prelude.{◌≡◌, ◌↔◌, ℕ, ◌<◌, Bool, true, false, cond, not, ◌==◌, nat_lt, List, [], ◌∷◌, ◌++◌, length, Option, None, Some, Result, Ok, Err}
use Rattle.std.specs.List.{list_all, list_any}
use Rattle.pgn_base.specs.declared.limits.TheConstants.{INPUT_BYTES_MAX}
use Rattle.pgn_base.specs.declared.command.Command.{Command}
use Rattle.pgn_base.specs.declared.command.Command.TheVariants.{Empty}
use Rattle.pgn_language.specs.declared.scenario.Scenario.{Scenario}
use Rattle.pgn_language.specs.declared.scenario.ScenarioFault.{ScenarioFault}
use Rattle.pgn_language.specs.declared.scenario.ScenarioFault.TheVariants as fault
use Rattle.pgn_language.specs.Tokens.{is_blank}
use Rattle.pgn_language.specs.Grammar.{ReadsAs}
use Rattle.pgn_language.specs.Lines.{SaysNothing, says, trimmed, is_gap, parts_of, lines_of}
use Rattle.pgn_language.specs.Inputs.{all_say, fault_of, has_section, unsignalled, scenario_of, IsOneLine, IsOneLineCommand, ReadsAsScenario, IsSound}

-- the byte does not stand in the text
abbrev pub lacks : ℕ → List ℕ → Bool
lacks byte text = not (list_any (λ b. b == byte) text)

-- a line that ends with LF, and the lines of what follows; a last line without LF
pub record LinesAreCut : Type 0 where
  pub ended : (line rest : List ℕ) → lacks 10 line ≡ true → lines_of (line ++ 10 ∷ rest) ≡ line ∷ lines_of rest
  pub last : (line : List ℕ) → lacks 10 line ≡ true → 0 < length line → lines_of line ≡ line ∷ []
  pub none : lines_of [] ≡ []

-- the text of a line is what stands between blanks, and neither begins nor ends with one
pub record IsTextOf (line text : List ℕ) : Type 0 where
  pub before : List ℕ
  pub after : List ℕ
  pub whole : line ≡ before ++ text ++ after
  pub blank_before : list_all is_blank before ≡ true
  pub blank_after : list_all is_blank after ≡ true
  pub first : (byte : ℕ) (rest : List ℕ) → text ≡ byte ∷ rest → is_blank byte ≡ false
  pub last : (byte : ℕ) (prefix : List ℕ) → text ≡ prefix ++ byte ∷ [] → is_blank byte ≡ false

-- a line has one text
abbrev pub TextsAreTrimmed : Type 0
TextsAreTrimmed = (line text : List ℕ) → IsTextOf line text ↔ (text ≡ trimmed line)

-- a part ends at a space or a tab, or where the text ends; what separates it from the next may be longer
pub record PartsAreCut : Type 0 where
  pub ended : (part rest : List ℕ) (gap : ℕ) → list_any is_gap part ≡ false → 0 < length part → is_gap gap ≡ true → parts_of (part ++ gap ∷ rest) ≡ part ∷ parts_of rest
  pub last : (part : List ℕ) → list_any is_gap part ≡ false → 0 < length part → parts_of part ≡ part ∷ []
  pub separated : (gap : ℕ) (rest : List ℕ) → is_gap gap ≡ true → parts_of (gap ∷ rest) ≡ parts_of rest
  pub none : parts_of [] ≡ []

-- a line is blank exactly where its text reads as the command Empty
abbrev pub BlankReadsEmpty : Type 0
BlankReadsEmpty = (line : List ℕ) → (says line ≡ SaysNothing) ↔ ReadsAs (trimmed line) Empty

-- the first fault of lines, after lines that have none
abbrev pub first_fault : List (List ℕ) → List (List ℕ) → Option ScenarioFault
first_fault before [] = None
first_fault before (line ∷ lines) = elim (fault_of before line) [ None ↦ first_fault (before ++ line ∷ []) lines | Some found ↦ Some found ]

-- what lines without faults read as
abbrev pub whole_reading : List (List ℕ) → Result Scenario ScenarioFault
whole_reading lines = cond (has_section (all_say lines))
    (elim (unsignalled (all_say lines)) [ Some n ↦ Err (fault.NeverSignalled n) | None ↦ Ok (scenario_of lines) ])
    (Err fault.Empty)

-- what lines read as
abbrev pub lines_reading : List (List ℕ) → Result Scenario ScenarioFault
lines_reading lines = elim (first_fault [] lines) [ Some found ↦ Err found | None ↦ whole_reading lines ]

-- what an input reads as
abbrev pub input_reading : List ℕ → Result Scenario ScenarioFault
input_reading input = cond (nat_lt INPUT_BYTES_MAX (length input)) (Err fault.TooLarge) (lines_reading (lines_of input))

-- an input reads as a scenario or a fault exactly where it is the one computed
abbrev pub InputReadingComputes : Type 0
InputReadingComputes = (input : List ℕ) (read : Result Scenario ScenarioFault) → ReadsAsScenario input read ↔ (input_reading input ≡ read)

-- an input has exactly one reading, be it a scenario or a fault
abbrev pub OneInputReading : Type 0
OneInputReading = (input : List ℕ)
    → (read : Result Scenario ScenarioFault) × ReadsAsScenario input read × ((other : Result Scenario ScenarioFault) → ReadsAsScenario input other → other ≡ read)

-- where no LF stands in a line, none stands in the command that it reads as
abbrev pub CommandsHaveOneLine : Type 0
CommandsHaveOneLine = (text : List ℕ) (command : Command) → IsOneLine text → ReadsAs text command → IsOneLineCommand command

-- only sound scenarios are read
abbrev pub ReadingsAreSound : Type 0
ReadingsAreSound = (input : List ℕ) (scenario : Scenario) → ReadsAsScenario input (Ok scenario) → IsSound scenario
