-- What each command comes to, once its words are read: what its answer says of what was read and written.
use Rattle.std.specs.Prelude.{◌≡◌, ◌⊎◌, ℕ, ◌<◌, ◌+◌, List, take, Option, Result, Ok, Err, IfSome, OnSome, IsSomeAnd}
use Rattle.std.specs.Io.KnownBytes.{Appends, Consumes, IsAtEnd}
use Rattle.pgn_base.specs.Outside.{AppendsPrefix, Rose}
use Rattle.pgn_base.specs.declared.limits.TheConstants.{INPUT_BYTES_MAX}
use Rattle.pgn_language.specs.declared.scenario.Scenario.{Scenario}
use Rattle.pgn_language.specs.declared.scenario.ScenarioFault.{ScenarioFault}
use Rattle.pgn_language.specs.Inputs.{ReadsAsScenario}
use Rattle.pgn_model.specs.Walk.{Settings}
use Rattle.pgn_options.specs.declared.asked.Asked.{Asked}
use Rattle.pgn_options.specs.declared.asked.Asked.TheVariants.{Run, Drill, Wire, Serve, Check}
use Rattle.pgn_options.specs.declared.reading.WordsFault.{WordsFault}
use Rattle.pgn_options.specs.declared.reading.WordsFault.TheVariants as words_fault
use Rattle.pgn_drill.specs.Drill.{drill}
use Rattle.pgn_run.specs.Checking.{AnswersCheck, IsOfCheck, IsUntold}
use Rattle.pgn_run.specs.declared.checking.TheConstants.{CHECK_BYTES_MAX}
use Rattle.pgn_run.specs.declared.print.Print.{Print}
use Rattle.pgn_run.specs.declared.print.Print.TheVariants.{Summary}
use Rattle.pgn_run.specs.declared.print.Shows.{Shows}
use Rattle.pgn_run.specs.declared.print.Shows.TheVariants.{AtEnd}
use Rattle.pgn_run.specs.declared.status.Status.{Status}
use Rattle.pgn_run.specs.declared.status.Status.TheVariants.{Done, BadWords, BadScenario, ReadFault, WriteFault, NoMemory}
use Rattle.pgn_run.specs.Run.{AnswersServe, AnswersWire, HasRead, IsOfRun, IsOfServe, IsOfWire, IsShownSoFar, Runs, Shown, ShownInPart, drill_settings, settings_with, shows_if}

-- what a run comes to
pub record RunEnds {S K : Type 0} (left : S → Option (List ℕ)) (faults : S → ℕ) (held : K → Option (List ℕ)) (sink_faults : K → ℕ) (shows : Shows) (settings : Settings) (source source_now : S) (sink sink_now : K) (status : Status) : Type 0 where
  pub done : status ≡ Done → IfSome (left source) (λ input. Shown shows settings input (Appends (held sink) (held sink_now)))
  pub done_reads_all : status ≡ Done → OnSome (left source) (IsAtEnd (left source_now))
  pub own : IsOfRun status
  pub bad_scenario : (fault : ScenarioFault) → status ≡ BadScenario fault → IfSome (left source) (λ input. ReadsAsScenario input (Err fault))
  pub bad_scenario_where_due : (fault : ScenarioFault) → IsSomeAnd (left source) (λ input. ReadsAsScenario input (Err fault)) → ¬ Rose (faults source) (faults source_now) → (status ≡ BadScenario fault) ⊎ (status ≡ NoMemory)
  pub bad_scenario_writes_nothing : (fault : ScenarioFault) → status ≡ BadScenario fault → held sink_now ≡ held sink
  pub read_fault : status ≡ ReadFault → Rose (faults source) (faults source_now)
  pub read_fault_where_due : faults source < faults source_now → status ≡ ReadFault
  pub read_fault_writes_nothing : status ≡ ReadFault → held sink_now ≡ held sink
  pub write_fault : status ≡ WriteFault → Rose (sink_faults sink) (sink_faults sink_now)
  pub write_fault_where_due : sink_faults sink < sink_faults sink_now → status ≡ WriteFault
  pub write_fault_writes_a_prefix : status ≡ WriteFault → IfSome (left source) (λ input. ShownInPart shows settings input (AppendsPrefix (held sink) (held sink_now)))
  pub no_memory_writes_nothing : (print : Print) → shows ≡ AtEnd print → status ≡ NoMemory → held sink_now ≡ held sink
  pub no_memory_writes_first_lines : status ≡ NoMemory → (held sink_now ≡ held sink) ⊎ IfSome (left source) (λ input. IsShownSoFar shows settings input (held sink) (held sink_now))
  pub what_was_read : HasRead status → IfSome (left source) (λ input. Consumes (left source) (left source_now) (take (INPUT_BYTES_MAX + 1) input))
  pub complete : (scenario : Scenario) → IsSomeAnd (left source) (λ input. ReadsAsScenario input (Ok scenario)) → ¬ Rose (faults source) (faults source_now) → ¬ Rose (sink_faults sink) (sink_faults sink_now) → (status ≡ Done) ⊎ (status ≡ NoMemory)

-- what a drill comes to
pub record DrillEnds {S K : Type 0} (left : S → Option (List ℕ)) (faults : S → ℕ) (held : K → Option (List ℕ)) (sink_faults : K → ℕ) (seed sessions notes : ℕ) (source source_now : S) (sink sink_now : K) (status : Status) : Type 0 where
  pub done : status ≡ Done → Runs (Summary seed notes) drill_settings (drill seed sessions notes) (Appends (held sink) (held sink_now))
  pub write_fault : status ≡ WriteFault → Rose (sink_faults sink) (sink_faults sink_now)
  pub write_fault_where_due : sink_faults sink < sink_faults sink_now → status ≡ WriteFault
  pub write_fault_writes_a_prefix : status ≡ WriteFault → Runs (Summary seed notes) drill_settings (drill seed sessions notes) (AppendsPrefix (held sink) (held sink_now))
  pub no_memory_writes_nothing : status ≡ NoMemory → held sink_now ≡ held sink
  pub only : (status ≡ Done) ⊎ (status ≡ WriteFault) ⊎ (status ≡ NoMemory)
  pub reads : source_now ≡ source

-- what a client comes to
pub record WireEnds {S K : Type 0} (left : S → Option (List ℕ)) (faults : S → ℕ) (held : K → Option (List ℕ)) (sink_faults : K → ℕ) (source source_now : S) (sink sink_now : K) (status : Status) : Type 0 where
  pub answers : IfSome (left source) (λ bytes. AnswersWire bytes (held sink) (held sink_now) status)
  pub own : IsOfWire status
  pub read_fault : status ≡ ReadFault → Rose (faults source) (faults source_now)
  pub read_fault_where_due : faults source < faults source_now → status ≡ ReadFault
  pub write_fault : status ≡ WriteFault → Rose (sink_faults sink) (sink_faults sink_now)
  pub write_fault_where_due : sink_faults sink < sink_faults sink_now → status ≡ WriteFault

-- what the clients of seats come to
pub record ServeEnds {S K : Type 0} (left : S → Option (List ℕ)) (faults : S → ℕ) (held : K → Option (List ℕ)) (sink_faults : K → ℕ) (seats : ℕ) (source source_now : S) (sink sink_now : K) (status : Status) : Type 0 where
  pub answers : IfSome (left source) (λ bytes. AnswersServe seats bytes (held sink) (held sink_now) status)
  pub own : IsOfServe status
  pub read_fault : status ≡ ReadFault → Rose (faults source) (faults source_now)
  pub fault_where_due : faults source < faults source_now → (status ≡ ReadFault) ⊎ (status ≡ WriteFault) ⊎ (status ≡ NoMemory)
  pub write_fault : status ≡ WriteFault → Rose (sink_faults sink) (sink_faults sink_now)
  pub write_fault_where_due : sink_faults sink < sink_faults sink_now → status ≡ WriteFault

-- what a check comes to
pub record CheckEnds {S K : Type 0} (left : S → Option (List ℕ)) (faults : S → ℕ) (held : K → Option (List ℕ)) (sink_faults : K → ℕ) (settings : Settings) (source source_now : S) (sink sink_now : K) (status : Status) : Type 0 where
  pub answers : IfSome (left source) (λ input. AnswersCheck settings input (held sink) (held sink_now) (sink_faults sink) (sink_faults sink_now) status)
  pub own : IsOfCheck status
  pub what_was_read : HasRead status → IfSome (left source) (λ input. Consumes (left source) (left source_now) (take (CHECK_BYTES_MAX + 1) input))
  pub nothing : IsUntold status → held sink_now ≡ held sink
  pub read_fault : status ≡ ReadFault → Rose (faults source) (faults source_now)
  pub read_fault_where_due : faults source < faults source_now → status ≡ ReadFault
  pub write_fault : status ≡ WriteFault → Rose (sink_faults sink) (sink_faults sink_now)
  pub write_fault_where_due : sink_faults sink < sink_faults sink_now → status ≡ WriteFault

-- nothing was done, and this is the answer
pub record IsRefused {S K : Type 0} (source source_now : S) (sink sink_now : K) (status refusal : Status) : Type 0 where
  pub is : status ≡ refusal
  pub reads : source_now ≡ source
  pub writes : sink_now ≡ sink

-- what words come to that were read so
abbrev pub Performed : {S K : Type 0} → (S → Option (List ℕ)) → (S → ℕ) → (K → Option (List ℕ)) → (K → ℕ) → Result Asked WordsFault → S → S → K → K → Status → Type 0
Performed left faults held sink_faults (Ok (Run pages patience format live)) source source_now sink sink_now status =
    RunEnds left faults held sink_faults (shows_if live) (settings_with pages patience format) source source_now sink sink_now status
Performed left faults held sink_faults (Ok (Drill seed sessions notes)) source source_now sink sink_now status = DrillEnds left faults held sink_faults seed sessions notes source source_now sink sink_now status
Performed left faults held sink_faults (Ok Wire) source source_now sink sink_now status = WireEnds left faults held sink_faults source source_now sink sink_now status
Performed left faults held sink_faults (Ok (Serve seats)) source source_now sink sink_now status = ServeEnds left faults held sink_faults seats source source_now sink sink_now status
Performed left faults held sink_faults (Ok (Check pages patience format)) source source_now sink sink_now status = CheckEnds left faults held sink_faults (settings_with pages patience format) source source_now sink sink_now status
Performed left faults held sink_faults (Err words_fault.BadWords) source source_now sink sink_now status = IsRefused source source_now sink sink_now status BadWords
Performed left faults held sink_faults (Err words_fault.Memory) source source_now sink sink_now status = IsRefused source source_now sink sink_now status NoMemory
