-- What the call of the program says of its input and its output.
use Rattle.std.specs.Prelude.{◌≡◌, ◌⊎◌, ℕ, Bool, true, false, List, Option, Ok, Err, None, Some, IfSome}
use Rattle.std.specs.Io.KnownBytes.{Appends}
use Rattle.pgn_base.specs.Outside.{AppendsPrefix, Rose}
use Rattle.pgn_journal.specs.declared.tx.Tx.{Tx}
use Rattle.pgn_language.specs.declared.scenario.Scenario.{Scenario}
use Rattle.pgn_model.specs.declared.trace.Trace.{Trace}
use Rattle.pgn_language.specs.Inputs.{ReadsAsScenario}
use Rattle.pgn_model.specs.Walk.{Settings}
use Rattle.pgn_model.specs.Legal.{Legal}
use Rattle.pgn_model.specs.Text.{brief, text}
use Rattle.pgn_base.specs.declared.format.Format.{Format}
use Rattle.pgn_base.specs.declared.format.Format.TheVariants.{One}
use Rattle.pgn_base.specs.declared.limits.TheConstants.{NOTE_LINES_MAX, PAGES_MAX}
use Rattle.pgn_options.specs.declared.asked.Asked.{Asked}
use Rattle.pgn_options.specs.declared.asked.Asked.TheVariants.{Run, Drill, Wire, Serve, Check}
use Rattle.pgn_options.specs.declared.limits.TheConstants.{PATIENCE_MAX}
use Rattle.pgn_options.specs.Words.{AskFor}
use Rattle.pgn_drill.specs.Drill.{drill}
use Rattle.pgn_check.specs.declared.check.Verdict.TheVariants as verdict
use Rattle.pgn_queries.specs.declared.wire_fault.WireFault.{WireFault}
use Rattle.pgn_queries.specs.Queries.{queries}
use Rattle.pgn_language.specs.declared.scenario.ScriptLine.{ScriptLine}
use Rattle.pgn_messages.specs.Messages.{messages}
use Rattle.pgn_wire.specs.Serving.{WroteWhole}
use Rattle.pgn_run.specs.Checking.{IsJudged, Tells, verdict_text}
use Rattle.pgn_service.specs.Conversation.{BreaksOff, Converses, StopsAmong, StopsBetween}
use Rattle.pgn_frames.specs.declared.frame_fault.FrameFault.{FrameFault}
use Rattle.pgn_frames.specs.Frames.{Frame, FramesAre}
use Rattle.pgn_service.specs.Service.{ServesAll, ServesFirst, ServesInPart, StopsServing}
use Rattle.pgn_run.specs.Live.{EarlyOver, LiveOver, SoFarOver}
use Rattle.pgn_run.specs.declared.settings.RunSettings.{RunSettings}
use Rattle.pgn_run.specs.declared.print.Shows.{Shows}
use Rattle.pgn_run.specs.declared.print.Shows.TheVariants.{AtEnd, Live}
use Rattle.pgn_run.specs.declared.print.Print.{Print}
use Rattle.pgn_run.specs.declared.print.Print.TheVariants.{Text, Summary}
use Rattle.pgn_run.specs.declared.status.Status.{Status}
use Rattle.pgn_run.specs.declared.status.Status.TheVariants.{Done, BadWords, BadScenario, ReadFault, WriteFault, NoMemory, BadWire, BadFrame, Illegal, NoOutput, CheckTooLarge}

-- the exit status of each outcome
abbrev pub code_of : Status → ℕ
code_of Done = 0
code_of BadWords = 2
code_of (BadScenario fault) = 3
code_of ReadFault = 4
code_of WriteFault = 5
code_of NoMemory = 6
code_of (Illegal line) = 8
code_of NoOutput = 9
code_of (BadWire fault) = 10
code_of CheckTooLarge = 11
code_of (BadFrame fault) = 12

-- the settings of a run with a limit of so many pages, where an await takes so many looks, with entries of this format
abbrev pub settings_with : ℕ → ℕ → Format → Settings
settings_with pages patience format = record { format = format; limit = pages; patience = patience }

-- the same, as a run is given them
abbrev pub settings_of : RunSettings → Settings
settings_of given = settings_with given.pages given.patience given.format

-- the settings of a drill
abbrev pub drill_settings : Settings
drill_settings = settings_with PAGES_MAX PATIENCE_MAX One

-- what is written of a run
abbrev pub printed : Print → Scenario → List Tx → List Trace → List ℕ
printed Text scenario journal traces = text scenario journal traces
printed (Summary seed notes) scenario journal traces = brief seed notes journal traces

-- P holds of what is written of a legal run of the scenario, with these settings
pub record RunsOver (print : Print) (scenario : Scenario) (settings : Settings) (P : List ℕ → Type 0) : Type 0 where
  pub journal : List Tx
  pub traces : List Trace
  pub legal : Legal scenario settings journal traces
  pub output : P (printed print scenario journal traces)

-- the input reads as a scenario, and P holds of what is written of a legal run of it, with these settings
pub record Runs (print : Print) (settings : Settings) (input : List ℕ) (P : List ℕ → Type 0) : Type 0 where
  pub scenario : Scenario
  pub journal : List Tx
  pub traces : List Trace
  pub reads : ReadsAsScenario input (Ok scenario)
  pub legal : Legal scenario settings journal traces
  pub output : P (printed print scenario journal traces)

-- the input reads as a scenario, and P holds of what is written of a legal live run of it, with these settings
pub record LiveRuns (settings : Settings) (input : List ℕ) (P : List ℕ → Type 0) : Type 0 where
  pub scenario : Scenario
  pub reads : ReadsAsScenario input (Ok scenario)
  pub run : LiveOver scenario settings P

-- it does, and P holds of the lines of what its sessions have shown
pub record EarlyRuns (settings : Settings) (input : List ℕ) (P : List ℕ → Type 0) : Type 0 where
  pub scenario : Scenario
  pub reads : ReadsAsScenario input (Ok scenario)
  pub run : EarlyOver scenario settings P

-- it does, and P holds of the lines of what its sessions have shown first
pub record SoFarRuns (settings : Settings) (input : List ℕ) (P : List ℕ → Type 0) : Type 0 where
  pub scenario : Scenario
  pub reads : ReadsAsScenario input (Ok scenario)
  pub run : SoFarOver scenario settings P

-- P holds of all that is shown of a run of the input
abbrev pub Shown : Shows → Settings → List ℕ → (List ℕ → Type 0) → Type 0
Shown (AtEnd print) settings input P = Runs print settings input P
Shown Live settings input P = LiveRuns settings input P

-- P holds of all that is shown of a run of the input, or of all that is shown before its end
abbrev pub ShownInPart : Shows → Settings → List ℕ → (List ℕ → Type 0) → Type 0
ShownInPart (AtEnd print) settings input P = Runs print settings input P
ShownInPart Live settings input P = LiveRuns settings input P ⊎ EarlyRuns settings input P

-- nothing was written; or, of a live run, the lines of what comes first
abbrev pub IsShownSoFar : Shows → Settings → List ℕ → Option (List ℕ) → Option (List ℕ) → Type 0
IsShownSoFar (AtEnd print) settings input old new = new ≡ old
IsShownSoFar Live settings input old new = (new ≡ old) ⊎ SoFarRuns settings input (Appends old new)

-- what `run` shows, with `--live` and without
abbrev pub shows_if : Bool → Shows
shows_if true = Live
shows_if false = AtEnd Text

-- what was asked for was done: what is left of the source was run, the scenario of a drill was, or the queries of a client, and P holds
-- of what is written of it; or what is left was checked and is legal, and P holds of the line that says so
abbrev pub Fulfils : Asked → Option (List ℕ) → (List ℕ → Type 0) → Type 0
Fulfils (Run pages patience format live) left P = IfSome left (λ input. Shown (shows_if live) (settings_with pages patience format) input P)
Fulfils (Drill seed sessions notes) left P = Runs (Summary seed notes) drill_settings (drill seed sessions notes) P
Fulfils Wire left P = IfSome left (λ bytes. Converses bytes P)
Fulfils (Serve seats) left P = IfSome left (λ bytes. ServesAll seats bytes None P)
Fulfils (Check pages patience format) left P =
    IfSome left (λ input. IsJudged (settings_with pages patience format) input verdict.Legal × P (verdict_text verdict.Legal))

-- the words ask for something, and that was run
pub record Performs (words : List (List ℕ)) (left : Option (List ℕ)) (P : List ℕ → Type 0) : Type 0 where
  pub asked : Asked
  pub asks : AskFor words asked
  pub done : Fulfils asked left P

-- the same, where what is shown may end early
abbrev pub FulfilsInPart : Asked → Option (List ℕ) → (List ℕ → Type 0) → Type 0
FulfilsInPart (Run pages patience format live) left P = IfSome left (λ input. ShownInPart (shows_if live) (settings_with pages patience format) input P)
FulfilsInPart (Drill seed sessions notes) left P = Runs (Summary seed notes) drill_settings (drill seed sessions notes) P
FulfilsInPart Wire left P = IfSome left (λ bytes. StopsAmong bytes (λ section items. P (messages section items)))
FulfilsInPart (Serve seats) left P = IfSome left (λ bytes. ServesInPart seats bytes P)
FulfilsInPart (Check pages patience format) left P = IfSome left (λ input. Tells (settings_with pages patience format) input P)

pub record PerformsInPart (words : List (List ℕ)) (left : Option (List ℕ)) (P : List ℕ → Type 0) : Type 0 where
  pub asked : Asked
  pub asks : AskFor words asked
  pub done : FulfilsInPart asked left P

-- the words ask to run what is read, live
pub record AskToRunLive (words : List (List ℕ)) : Type 0 where
  pub pages : ℕ
  pub patience : ℕ
  pub format : Format
  pub asks : AskFor words (Run pages patience format true)

-- the words ask to run what is read
pub record AskToRun (words : List (List ℕ)) : Type 0 where
  pub pages : ℕ
  pub patience : ℕ
  pub format : Format
  pub live : Bool
  pub asks : AskFor words (Run pages patience format live)

-- the words ask for a drill
pub record AskToDrill (words : List (List ℕ)) : Type 0 where
  pub seed : ℕ
  pub sessions : ℕ
  pub notes : ℕ
  pub asks : AskFor words (Drill seed sessions notes)

-- the words ask to serve a client
abbrev pub AskToWire : List (List ℕ) → Type 0
AskToWire words = AskFor words Wire

-- the words ask to serve the clients of seats
pub record AskToServe (words : List (List ℕ)) : Type 0 where
  pub seats : ℕ
  pub asks : AskFor words (Serve seats)

-- the words ask to check what is read
pub record AskToCheck (words : List (List ℕ)) : Type 0 where
  pub pages : ℕ
  pub patience : ℕ
  pub format : Format
  pub asks : AskFor words (Check pages patience format)

-- the settings that they name
abbrev pub asked_settings : {words : List (List ℕ)} → AskToCheck words → Settings
asked_settings ask = settings_with ask.pages ask.patience ask.format

-- a client's bytes are queries, and end so: by this fault, or without
pub record EndsIn (bytes : List ℕ) (fault : Option WireFault) : Type 0 where
  pub lines : List ScriptLine
  pub reads : queries NOTE_LINES_MAX bytes lines fault

-- an input of so many seats has frames, and ends so: by this fault, or without
pub record HasFrames (seats : ℕ) (bytes : List ℕ) (fault : Option FrameFault) : Type 0 where
  pub frames : List Frame
  pub are : FramesAre seats 0 bytes frames fault

-- what each outcome says of a text that was to be written: of what the sink holds and of its count of faults
abbrev pub HasWritten : List ℕ → Option (List ℕ) → Option (List ℕ) → ℕ → ℕ → Status → Type 0
HasWritten text old new before now Done = Appends old new text
HasWritten text old new before now WriteFault = AppendsPrefix old new text × Rose before now
HasWritten text old new before now NoMemory = new ≡ old
HasWritten text old new before now status = ⊥

-- what each outcome says of an input that was read, of what the sink holds and of its count of faults
abbrev pub Answers : Shows → Settings → List ℕ → Option (List ℕ) → Option (List ℕ) → ℕ → ℕ → Status → Type 0
Answers shows settings input old new before now Done = Shown shows settings input (Appends old new)
Answers shows settings input old new before now WriteFault = ShownInPart shows settings input (AppendsPrefix old new) × Rose before now
Answers shows settings input old new before now NoMemory = IsShownSoFar shows settings input old new
Answers shows settings input old new before now (BadScenario fault) = ReadsAsScenario input (Err fault) × (new ≡ old)
Answers shows settings input old new before now status = ⊥

-- the outcomes that `run` may have
abbrev pub IsOfRun : Status → Type 0
IsOfRun Done = Unit {0}
IsOfRun (BadScenario fault) = Unit {0}
IsOfRun ReadFault = Unit {0}
IsOfRun WriteFault = Unit {0}
IsOfRun NoMemory = Unit {0}
IsOfRun status = ⊥

-- those that `wire` may have
abbrev pub IsOfWire : Status → Type 0
IsOfWire Done = Unit {0}
IsOfWire ReadFault = Unit {0}
IsOfWire WriteFault = Unit {0}
IsOfWire NoMemory = Unit {0}
IsOfWire (BadWire fault) = Unit {0}
IsOfWire status = ⊥

-- what each outcome says of what a client sent, and of what the sink holds
abbrev pub AnswersWire : List ℕ → Option (List ℕ) → Option (List ℕ) → Status → Type 0
AnswersWire bytes old new Done = Converses bytes (Appends old new)
AnswersWire bytes old new (BadWire fault) = BreaksOff bytes fault (Appends old new)
AnswersWire bytes old new ReadFault = StopsBetween bytes (Appends old new)
AnswersWire bytes old new WriteFault = StopsAmong bytes (λ section items. AppendsPrefix old new (messages section items))
AnswersWire bytes old new NoMemory = StopsAmong bytes (WroteWhole old new)
AnswersWire bytes old new status = ⊥

-- those that `serve` may have
abbrev pub IsOfServe : Status → Type 0
IsOfServe Done = Unit {0}
IsOfServe ReadFault = Unit {0}
IsOfServe WriteFault = Unit {0}
IsOfServe NoMemory = Unit {0}
IsOfServe (BadFrame fault) = Unit {0}
IsOfServe status = ⊥

-- what each outcome says of what the clients of seats sent, and of what the sink holds
abbrev pub AnswersServe : ℕ → List ℕ → Option (List ℕ) → Option (List ℕ) → Status → Type 0
AnswersServe seats bytes old new Done = ServesAll seats bytes None (Appends old new)
AnswersServe seats bytes old new (BadFrame fault) = ServesAll seats bytes (Some fault) (Appends old new)
AnswersServe seats bytes old new ReadFault = ServesFirst seats bytes (Appends old new)
AnswersServe seats bytes old new WriteFault = ServesInPart seats bytes (AppendsPrefix old new)
AnswersServe seats bytes old new NoMemory = (new ≡ old) ⊎ StopsServing seats bytes (Appends old new)
AnswersServe seats bytes old new status = ⊥

-- the outcomes after which the whole input was read
abbrev pub HasRead : Status → Type 0
HasRead Done = Unit {0}
HasRead WriteFault = Unit {0}
HasRead (BadScenario fault) = Unit {0}
HasRead (Illegal line) = Unit {0}
HasRead NoOutput = Unit {0}
HasRead CheckTooLarge = Unit {0}
HasRead status = ⊥
