-- How the program ends.
use Rattle.std.specs.Prelude.{◌≡◌, ◌≢◌, ◌⊎◌, ℕ, ◌<◌, List, Option, Some, Result, Ok, Err, IfOk, IfSome, IsOkAnd}
use Rattle.std.specs.Io.KnownBytes.{Appends}
use Rattle.std.specs.declared.io.ErrorKind.{ErrorKind}
use Rattle.std.specs.declared.io.ErrorKind.TheVariants.{OutOfMemory}
use Rattle.pgn_base.specs.Outside.{AppendsPrefix, Rose}
use Rattle.pgn_language.specs.declared.scenario.ScenarioFault.{ScenarioFault}
use Rattle.pgn_language.specs.Inputs.{ReadsAsScenario}
use Rattle.pgn_queries.specs.declared.wire_fault.WireFault.{WireFault}
use Rattle.pgn_check.specs.declared.check.Verdict.TheVariants as verdict
use Rattle.pgn_model.specs.Walk.{Settings}
use Rattle.pgn_options.specs.Words.{AreNoCommand}
use Rattle.pgn_wire.specs.Serving.{WroteWhole}
use Rattle.pgn_run.specs.Checking.{HasFault, HasNoOutput, IsJudged, IsTooLarge, verdict_text}
use Rattle.pgn_service.specs.Conversation.{BreaksOff, StopsAmong, StopsBetween}
use Rattle.pgn_run.specs.declared.status.Status.{Status}
use Rattle.pgn_run.specs.declared.status.Status.TheVariants.{Done, BadWords, BadScenario, ReadFault, WriteFault, NoMemory, BadWire, Illegal, NoOutput, CheckTooLarge, BadFrame}
use Rattle.pgn_frames.specs.declared.frame_fault.FrameFault.{FrameFault}
use Rattle.pgn_service.specs.Service.{ServesAll, ServesFirst, StopsServing}
use Rattle.pgn_run.specs.Run.{AskToCheck, AskToRunLive, AskToServe, AskToWire, Performs, PerformsInPart, SoFarRuns, asked_settings, code_of, settings_with}
use Rattle.pgn_cli.specs.FaultLine.{fault_text, frame_fault_text, scenario_fault_text, wire_fault_text}
use Rattle.pgn_cli.specs.declared.arguments.NoWords.{NoWords}
use Rattle.pgn_cli.specs.declared.arguments.NoWords.TheVariants.{Memory, NotText}

-- why words are not there that were refused by this kind of error
abbrev pub refused_for : ErrorKind → NoWords
refused_for OutOfMemory = Memory
refused_for kind = NotText

-- the outcomes with which nothing is written, whatever the words are
abbrev pub IsRefused : Status → Type 0
IsRefused BadWords = Unit {0}
IsRefused (BadScenario fault) = Unit {0}
IsRefused NoOutput = Unit {0}
IsRefused CheckTooLarge = Unit {0}
IsRefused status = ⊥

-- the exit status is that of an outcome, and the outcome's line was written to the errors, whole where no fault was counted
pub record Ends (code : ℕ) (old new : Option (List ℕ)) (before now : ℕ) : Type 0 where
  pub status : Status
  pub is_code : code ≡ code_of status
  pub line : AppendsPrefix old new (fault_text status)
  pub whole : ¬ Rose before now → Appends old new (fault_text status)

-- the input, or its first part where it has two, is no scenario for this fault
abbrev pub IsFaulty : List ℕ → ScenarioFault → Type 0
IsFaulty input fault = ReadsAsScenario input (Err fault) ⊎ HasFault input fault

-- it is no scenario, and the line of its fault was written to the errors, or a prefix of that line
pub record NamesFault (old new : Option (List ℕ)) (input : List ℕ) : Type 0 where
  pub fault : ScenarioFault
  pub faulty : IsFaulty input fault
  pub line : AppendsPrefix old new (scenario_fault_text fault)

-- a client's bytes are at fault; what it asked before was answered, and the line of the fault was written to the errors, or a prefix of
-- that line
pub record NamesWireFault (held now old new : Option (List ℕ)) (bytes : List ℕ) : Type 0 where
  pub fault : WireFault
  pub breaks_off : BreaksOff bytes fault (Appends held now)
  pub line : AppendsPrefix old new (wire_fault_text fault)

-- the output text of an input is none of a legal run, and the number of the first line to blame was written
pub record SaysIllegal (settings : Settings) (old new : Option (List ℕ)) (input : List ℕ) : Type 0 where
  pub line : ℕ
  pub judged : IsJudged settings input (verdict.Illegal line)
  pub output : Appends old new (verdict_text (verdict.Illegal line))

-- the words ask to serve, what was read for the clients of seats has this fault, and all frames before were served
abbrev pub ServesUpTo : List (List ℕ) → FrameFault → Option (List ℕ) → Option (List ℕ) → Option (List ℕ) → Type 0
ServesUpTo words fault left held now = (ask : AskToServe words) × IfSome left (λ bytes. ServesAll ask.seats bytes (Some fault) (Appends held now))

-- frames are at fault, all before were served, and the line of the fault was written to the errors, or a prefix of that line
pub record NamesFrameFault (seats : ℕ) (held now old new : Option (List ℕ)) (bytes : List ℕ) : Type 0 where
  pub fault : FrameFault
  pub served : ServesAll seats bytes (Some fault) (Appends held now)
  pub line : AppendsPrefix old new (frame_fault_text fault)

abbrev pub SaysBadFrame : List (List ℕ) → Option (List ℕ) → Option (List ℕ) → Option (List ℕ) → Option (List ℕ) → Option (List ℕ) → Type 0
SaysBadFrame words left held now old new = (ask : AskToServe words) × IfSome left (NamesFrameFault ask.seats held now old new)

-- where the words ask to serve, the first frames were served
abbrev pub ServedFirst : List (List ℕ) → Option (List ℕ) → Option (List ℕ) → Option (List ℕ) → Type 0
ServedFirst words left held now = (ask : AskToServe words) → IfSome left (λ bytes. ServesFirst ask.seats bytes (Appends held now))

-- where they do, nothing was written, or whole turns
abbrev pub ServedInPart : List (List ℕ) → Option (List ℕ) → Option (List ℕ) → Option (List ℕ) → Type 0
ServedInPart words left held now = (ask : AskToServe words) → (now ≡ held) ⊎ IfSome left (λ bytes. StopsServing ask.seats bytes (Appends held now))

-- the words, as bytes, where they are there
abbrev pub texts_of : {T : Type 0} → Result T NoWords → (T → List (List ℕ)) → Result (List (List ℕ)) NoWords
texts_of (Ok words) of = Ok (of words)
texts_of (Err why) of = Err why

-- what words come to, `left` being what was left of the source: of the source and of the sink, each the count of faults before and now
pub record Comes (words : Result (List (List ℕ)) NoWords) (left : Option (List ℕ)) (read read_now : ℕ) (held now : Option (List ℕ)) (wrote wrote_now : ℕ) (status : Status) : Type 0 where
  pub done : status ≡ Done → IsOkAnd words (λ words. Performs words left (Appends held now))
  pub bad_scenario : (fault : ScenarioFault) → status ≡ BadScenario fault → IfSome left (λ input. IsFaulty input fault)
  pub bad_wire : (fault : WireFault) → status ≡ BadWire fault → IsOkAnd words AskToWire × IfSome left (λ bytes. BreaksOff bytes fault (Appends held now))
  pub bad_frame : (fault : FrameFault) → status ≡ BadFrame fault → IsOkAnd words (λ words. ServesUpTo words fault left held now)
  pub illegal : (line : ℕ) → status ≡ Illegal line → IsOkAnd words (λ words. (ask : AskToCheck words) × IfSome left (SaysIllegal (asked_settings ask) held now))
  pub no_output : status ≡ NoOutput → IsOkAnd words AskToCheck × IfSome left HasNoOutput
  pub check_too_large : status ≡ CheckTooLarge → IsOkAnd words AskToCheck × IfSome left IsTooLarge
  pub read_fault : status ≡ ReadFault → Rose read read_now
  pub read_fault_where_due : IfOk words (λ words. ¬ AskToServe words) → read < read_now → status ≡ ReadFault
  pub read_fault_where_served : IfOk words (λ words. AskToServe words → read < read_now → (status ≡ ReadFault) ⊎ (status ≡ WriteFault) ⊎ (status ≡ NoMemory))
  pub write_fault : status ≡ WriteFault → Rose wrote wrote_now
  pub write_fault_where_due : wrote < wrote_now → status ≡ WriteFault
  pub write_fault_writes_a_prefix : status ≡ WriteFault → IsOkAnd words (λ words. PerformsInPart words left (AppendsPrefix held now))
  pub refused_writes_nothing : IsRefused status → now ≡ held
  pub read_fault_writes_nothing : IfOk words (λ words. ¬ AskToWire words) → IfOk words (λ words. ¬ AskToServe words) → status ≡ ReadFault → now ≡ held
  pub read_fault_writes_answers : IfOk words (λ words. AskToWire words → status ≡ ReadFault → IfSome left (λ bytes. StopsBetween bytes (Appends held now)))
  pub read_fault_writes_what_was_told : IfOk words (λ words. status ≡ ReadFault → ServedFirst words left held now)
  pub no_memory_writes_nothing : IfOk words (λ words. ¬ AskToRunLive words) → IfOk words (λ words. ¬ AskToWire words) → IfOk words (λ words. ¬ AskToServe words)
      → status ≡ NoMemory → now ≡ held
  pub no_memory_writes_first_lines : IfOk words (λ words. (ask : AskToRunLive words) → status ≡ NoMemory
      → (now ≡ held) ⊎ IfSome left (λ input. SoFarRuns (settings_with ask.pages ask.patience ask.format) input (Appends held now)))
  pub no_memory_writes_whole_answers : IfOk words (λ words. AskToWire words → status ≡ NoMemory → IfSome left (λ bytes. StopsAmong bytes (WroteWhole held now)))
  pub no_memory_writes_whole_turns : IfOk words (λ words. status ≡ NoMemory → ServedInPart words left held now)
  pub no_memory : words ≡ Err Memory → status ≡ NoMemory
  pub not_text : words ≡ Err NotText → status ≡ BadWords
  pub right_words : IfOk words (λ words. status ≡ BadWords → AreNoCommand words)
  pub other_words : IfOk words (λ words. AreNoCommand words → status ≢ NoMemory → status ≡ BadWords)
