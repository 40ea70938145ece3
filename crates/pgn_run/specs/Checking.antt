-- What `check` reads and what it answers: an input is a scenario, a line `\output`, and the output text that is to be checked.
use Rattle.std.specs.Prelude.{◌≡◌, ◌<◌, ◌≤◌, ◌==◌, ◌&&◌, ℕ, Bool, true, cond, List, [], ◌∷◌, ◌++◌, length, Option, None, Some, option_map, Ok, Err, codes, decimal}
use Rattle.std.specs.Io.KnownBytes.{Appends}
use Rattle.std.specs.List.{after_first, before_first}
use Rattle.std.specs.Str.{bytes_eq}
use Rattle.pgn_base.specs.Outside.{AppendsPrefix, Rose}
use Rattle.pgn_language.specs.declared.scenario.Scenario.{Scenario}
use Rattle.pgn_language.specs.declared.scenario.ScenarioFault.{ScenarioFault}
use Rattle.pgn_language.specs.Inputs.{ReadsAsScenario}
use Rattle.pgn_model.specs.Walk.{Settings}
use Rattle.pgn_check.specs.declared.check.Verdict.{Verdict}
use Rattle.pgn_check.specs.declared.check.Verdict.TheVariants as verdict
use Rattle.pgn_check.specs.Verdicts.{Judges}
use Rattle.pgn_run.specs.declared.checking.TheConstants.{CHECK_BYTES_MAX}
use Rattle.pgn_run.specs.declared.status.Status.{Status}
use Rattle.pgn_run.specs.declared.status.Status.TheVariants.{Done, BadWords, BadScenario, ReadFault, WriteFault, NoMemory, BadWire, BadFrame, Illegal, NoOutput, CheckTooLarge}

-- a line feed
abbrev pub ends_line : ℕ → Bool
ends_line byte = byte == 10

-- the two parts of an input
pub record Parts : Type 0 where
  pub scenario : List ℕ
  pub output : List ℕ

-- parts with a byte more at the front of the scenario
abbrev pub with_byte : ℕ → Parts → Parts
with_byte byte parts = record { scenario = byte ∷ parts.scenario; output = parts.output }

-- the parts of a text that begins with a line, or within one: what stands before the first line that is `\output`, and what stands
-- behind that line
abbrev pub parts_from : Bool → List ℕ → Option Parts
parts_from begins [] = None
parts_from begins (byte ∷ bytes) =
    cond (begins && bytes_eq (before_first ends_line (byte ∷ bytes)) (codes "\\output"))
    (Some (record { scenario = []; output = after_first ends_line (byte ∷ bytes) }))
    (option_map (with_byte byte) (parts_from (ends_line byte) bytes))

-- the parts of an input, where it has a line `\output`
abbrev pub parts_of : List ℕ → Option Parts
parts_of input = parts_from true input

-- the input is larger than one that is checked
abbrev pub IsTooLarge : List ℕ → Type 0
IsTooLarge input = CHECK_BYTES_MAX < length input

-- it is none, and has no line `\output`
pub record HasNoOutput (input : List ℕ) : Type 0 where
  pub fits : length input ≤ CHECK_BYTES_MAX
  pub none : parts_of input ≡ None

-- it is none, and its first part is no scenario, for this fault
pub record HasFault (input : List ℕ) (fault : ScenarioFault) : Type 0 where
  pub parts : Parts
  pub fits : length input ≤ CHECK_BYTES_MAX
  pub parted : parts_of input ≡ Some parts
  pub reads : ReadsAsScenario parts.scenario (Err fault)

-- it is none, its first part reads as a scenario, and this is the verdict on its second part, with these settings
pub record IsJudged (settings : Settings) (input : List ℕ) (given : Verdict) : Type 0 where
  pub parts : Parts
  pub scenario : Scenario
  pub fits : length input ≤ CHECK_BYTES_MAX
  pub parted : parts_of input ≡ Some parts
  pub reads : ReadsAsScenario parts.scenario (Ok scenario)
  pub judged : Judges scenario settings parts.output given

-- the line of a verdict
abbrev pub verdict_text : Verdict → List ℕ
verdict_text verdict.Legal = codes "legal\n"
verdict_text (verdict.Illegal line) = codes "illegal line " ++ decimal line ++ codes "\n"

-- P holds of the line of the verdict on an input, with these settings
pub record Tells (settings : Settings) (input : List ℕ) (P : List ℕ → Type 0) : Type 0 where
  pub given : Verdict
  pub judged : IsJudged settings input given
  pub output : P (verdict_text given)

-- a text reads as a scenario, and this is the verdict on an output text of it, with these settings
pub record IsVerdictOn (settings : Settings) (text output : List ℕ) (given : Verdict) : Type 0 where
  pub scenario : Scenario
  pub reads : ReadsAsScenario text (Ok scenario)
  pub judged : Judges scenario settings output given

-- the outcome of a verdict that was written
abbrev pub status_of : Verdict → Status
status_of verdict.Legal = Done
status_of (verdict.Illegal line) = Illegal line

-- the outcomes that `check` may have
abbrev pub IsOfCheck : Status → Type 0
IsOfCheck BadWords = ⊥
IsOfCheck (BadWire fault) = ⊥
IsOfCheck (BadFrame fault) = ⊥
IsOfCheck status = Unit {0}

-- those with which no verdict is written, nor a part of one
abbrev pub IsUntold : Status → Type 0
IsUntold Done = ⊥
IsUntold (Illegal line) = ⊥
IsUntold WriteFault = ⊥
IsUntold status = Unit {0}

-- what each outcome says of the line of a verdict that was to be written: of what the sink holds and of its count of faults
abbrev pub HasTold : Verdict → Option (List ℕ) → Option (List ℕ) → ℕ → ℕ → Status → Type 0
HasTold given old new before now WriteFault = AppendsPrefix old new (verdict_text given) × Rose before now
HasTold given old new before now status = (status ≡ status_of given) × Appends old new (verdict_text given)

-- what each outcome says of an input that was read, of what the sink holds and of its count of faults
abbrev pub AnswersCheck : Settings → List ℕ → Option (List ℕ) → Option (List ℕ) → ℕ → ℕ → Status → Type 0
AnswersCheck settings input old new before now Done = IsJudged settings input verdict.Legal × Appends old new (verdict_text verdict.Legal)
AnswersCheck settings input old new before now (Illegal line) = IsJudged settings input (verdict.Illegal line) × Appends old new (verdict_text (verdict.Illegal line))
AnswersCheck settings input old new before now WriteFault = Tells settings input (AppendsPrefix old new) × Rose before now
AnswersCheck settings input old new before now NoMemory = new ≡ old
AnswersCheck settings input old new before now ReadFault = new ≡ old
AnswersCheck settings input old new before now (BadScenario fault) = HasFault input fault × (new ≡ old)
AnswersCheck settings input old new before now NoOutput = HasNoOutput input × (new ≡ old)
AnswersCheck settings input old new before now CheckTooLarge = IsTooLarge input × (new ≡ old)
AnswersCheck settings input old new before now status = ⊥
