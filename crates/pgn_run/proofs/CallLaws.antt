-- What the call of the program says, from what the command came to that its words ask for.
use Rattle.std.proofs.Common.{◌≡◌, ◌⊎◌, ◌∙◌, ℕ, ◌<◌, ◌+◌, List, take, Option, None, Some, Result, Ok, Err, IfOk, IfSome, OnSome, IsSomeAnd, ap, inl, inr, refl, subst, sym, arith}
use Rattle.pgn_check.specs.declared.check.Verdict.TheVariants as verdict
use Rattle.pgn_model.specs.Walk.{Settings}
use Rattle.pgn_run.specs.Checking.{HasFault, HasNoOutput, IsJudged, IsOfCheck, IsTooLarge, IsUntold, verdict_text}
use Rattle.pgn_service.specs.Conversation.{BreaksOff, StopsAmong, StopsBetween}
use Rattle.pgn_service.specs.Service.{ServesAll, ServesFirst, StopsServing}
use Rattle.pgn_run.specs.Calls.{Performed}
use Rattle.pgn_run.specs.declared.checking.TheConstants.{CHECK_BYTES_MAX}
use Rattle.pgn_wire.specs.Serving.{WroteWhole}
use Rattle.pgn_language.specs.declared.scenario.Scenario.{Scenario}
use Rattle.pgn_language.specs.declared.scenario.ScenarioFault.{ScenarioFault}
use Rattle.pgn_language.specs.Inputs.{ReadsAsScenario}
use Rattle.pgn_queries.specs.declared.wire_fault.WireFault.{WireFault}
use Rattle.pgn_frames.specs.declared.frame_fault.FrameFault.{FrameFault}
use Rattle.std.specs.Io.KnownBytes.{Appends, Consumes, IsAtEnd}
use Rattle.pgn_base.specs.Outside.{AppendsPrefix, Rose}
use Rattle.pgn_base.specs.declared.limits.TheConstants.{INPUT_BYTES_MAX}
use Rattle.pgn_run.specs.Run.{AskToCheck, AskToDrill, AskToRun, AskToRunLive, AskToServe, AskToWire, EndsIn, HasFrames, HasRead, IsOfRun, IsOfServe, IsOfWire, Performs, PerformsInPart, SoFarRuns, asked_settings, settings_with, shows_if}
use Rattle.pgn_run.specs.declared.status.Status.{Status}
use Rattle.pgn_run.specs.declared.status.Status.TheVariants.{Done, BadWords, BadScenario, ReadFault, WriteFault, NoMemory, BadWire, Illegal, NoOutput, CheckTooLarge, BadFrame}
use Rattle.pgn_run.specs.declared.print.Print.TheVariants.{Text}
use Rattle.pgn_run.proofs.RunLaws.{so_far-known}
use Rattle.pgn_options.specs.declared.asked.Asked.{Asked}
use Rattle.pgn_options.specs.declared.reading.WordsFault.{WordsFault}
use Rattle.pgn_options.specs.declared.reading.WordsFault.TheVariants as words_fault
use Rattle.pgn_options.specs.declared.asked.Asked.TheVariants.{Run, Drill, Wire, Serve, Check}
use Rattle.pgn_options.specs.Words.{AreNoCommand, AskFor}
use Rattle.pgn_run.proofs.AskedLaws.{check-no_drill, check-no_run, check-no_serve, check-no_wire, drill-no_check, drill-no_serve, drill-no_wire, none-serves, run-no_serve, same-seats, serve-no_check, serve-no_drill, serve-no_run, serve-no_wire, wire-no_serve, live-runs, no-drill, no-other, no-run, none-checks, none-drills, none-runs, none-wires, run-no_check, run-no_wire, same-check, same-run, shows-once, wire-no_check, wire-no_drill, wire-no_run}
use Rattle.pgn_run.proofs.ServeLaws.{bad-serve, done-serve, memory-serve, read-serve, serve-completes, serve-refused, write-serve}
use Rattle.pgn_run.proofs.OverLaws.{drill-completes, not-bad-frame, not-bad-scenario, not-bad-wire, not-bad-words, not-read-fault, own-drill}
use Rattle.pgn_service.proofs.ConversationLaws.{unopened-known}
use Rattle.pgn_run.proofs.WireLaws.{bad-wire, done-wire, memory-wire, read-wire, wire-completes, wire-refused, write-wire}
use Rattle.pgn_run.proofs.CheckingLaws.{answered-check, check-fault, check-large, check-none, check-part, fault-due, large-due, none-due, verdict-due}

-- what stays counts no more
no-rise : {S : Type 0} (faults : S → ℕ) (old new : S) → new ≡ old → faults old < faults new → ⊥
no-rise faults old new same rose = let e : faults new ≡ faults old = ap faults same in omega (arith, rose, e)

-- no other status is that of bad words, or of want of memory
abbrev IsBadWords : Status → Type 0
IsBadWords BadWords = Unit {0}
IsBadWords status = ⊥

abbrev IsNoMemory : Status → Type 0
IsNoMemory NoMemory = Unit {0}
IsNoMemory status = ⊥

bad-words-alone : {status other : Status} → status ≡ BadWords → status ≡ other → IsBadWords other
bad-words-alone is e = subst IsBadWords (sym is ∙ e) tt

no-memory-alone : {status other : Status} → status ≡ NoMemory → status ≡ other → IsNoMemory other
no-memory-alone is e = subst IsNoMemory (sym is ∙ e) tt

module _ {S K : Type 0} (left : S → Option (List ℕ)) (faults : S → ℕ) (held : K → Option (List ℕ)) (sink_faults : K → ℕ) (words : List (List ℕ)) (source source_now : S) (sink sink_now : K) (status : Status) where
  -- what the call says by its clause done
  pub done-said : (asked : Result Asked WordsFault) → IfOk asked (λ a. AskFor words a) → (asked ≡ Err words_fault.BadWords → AreNoCommand words) → Performed left faults held sink_faults asked source source_now sink sink_now status
      → (status ≡ Done → Performs words (left source) (Appends (held sink) (held sink_now)))
  done-said (Ok (Run pages patience format live)) asks bad h = λ e. record { asked = Run pages patience format live; asks = asks; done = h.done e }
  done-said (Ok (Drill seed sessions notes)) asks bad h = λ e. record {
    asked = Drill seed sessions notes;
    asks = asks;
    done = h.done e;
  }
  done-said (Ok Wire) asks bad h = λ e. record { asked = Wire; asks = asks; done = done-wire (left source) (held sink) (held sink_now) status h.answers e }
  done-said (Ok (Serve seats)) asks bad h = λ e. record { asked = Serve seats; asks = asks; done = done-serve seats (left source) (held sink) (held sink_now) status h.answers e }
  done-said (Ok (Check pages patience format)) asks bad h = λ e. record { asked = Check pages patience format; asks = asks; done = answered-check (settings_with pages patience format) (left source) (held sink) (held sink_now) _ _ status h.answers Done e }
  done-said (Err words_fault.BadWords) asks bad h = λ e. absurd (bad-words-alone h.is e)
  done-said (Err words_fault.Memory) asks bad h = λ e. absurd (no-memory-alone h.is e)

  -- what the call says by its clause done_reads_all
  pub done_reads_all-said : (asked : Result Asked WordsFault) → IfOk asked (λ a. AskFor words a) → (asked ≡ Err words_fault.BadWords → AreNoCommand words) → Performed left faults held sink_faults asked source source_now sink sink_now status
      → (AskToRun words → status ≡ Done → OnSome (left source) (IsAtEnd (left source_now)))
  done_reads_all-said (Ok (Run pages patience format live)) asks bad h = λ ask. h.done_reads_all
  done_reads_all-said (Ok (Drill seed sessions notes)) asks bad h = λ ask e.
      absurd (no-run words seed sessions notes asks ask)
  done_reads_all-said (Ok Wire) asks bad h = λ ask. absurd (wire-no_run words asks ask)
  done_reads_all-said (Ok (Serve seats)) asks bad h = λ ask. absurd (serve-no_run words seats asks ask)
  done_reads_all-said (Ok (Check pages patience format)) asks bad h = λ ask. absurd (check-no_run words pages patience format asks ask)
  done_reads_all-said (Err words_fault.BadWords) asks bad h = λ ask e. absurd (bad-words-alone h.is e)
  done_reads_all-said (Err words_fault.Memory) asks bad h = λ ask e. absurd (no-memory-alone h.is e)

  -- what the call says by its clause bad_words
  pub bad_words-said : (asked : Result Asked WordsFault) → IfOk asked (λ a. AskFor words a) → (asked ≡ Err words_fault.BadWords → AreNoCommand words) → Performed left faults held sink_faults asked source source_now sink sink_now status
      → (status ≡ BadWords → AreNoCommand words)
  bad_words-said (Ok (Run pages patience format live)) asks bad h = λ e. absurd (subst IsOfRun e h.own)
  bad_words-said (Ok (Drill seed sessions notes)) asks bad h = λ e. absurd (not-bad-words status h.only e)
  bad_words-said (Ok Wire) asks bad h = λ e. absurd (subst IsOfWire e h.own)
  bad_words-said (Ok (Serve seats)) asks bad h = λ e. absurd (subst IsOfServe e h.own)
  bad_words-said (Ok (Check pages patience format)) asks bad h = λ e. absurd (subst IsOfCheck e h.own)
  bad_words-said (Err words_fault.BadWords) asks bad h = λ e. bad refl
  bad_words-said (Err words_fault.Memory) asks bad h = λ e. absurd (no-memory-alone h.is e)

  -- what the call says by its clause bad_words_where_due
  pub bad_words_where_due-said : (asked : Result Asked WordsFault) → IfOk asked (λ a. AskFor words a) → (asked ≡ Err words_fault.BadWords → AreNoCommand words) → Performed left faults held sink_faults asked source source_now sink sink_now status
      → (AreNoCommand words → (status ≡ BadWords) ⊎ (status ≡ NoMemory))
  bad_words_where_due-said (Ok (Run pages patience format live)) asks bad h = λ none. absurd (no-other words (Run pages patience format live) asks none)
  bad_words_where_due-said (Ok (Drill seed sessions notes)) asks bad h = λ none. absurd (no-other words (Drill seed sessions notes) asks none)
  bad_words_where_due-said (Ok Wire) asks bad h = λ none. absurd (no-other words Wire asks none)
  bad_words_where_due-said (Ok (Serve seats)) asks bad h = λ none. absurd (no-other words (Serve seats) asks none)
  bad_words_where_due-said (Ok (Check pages patience format)) asks bad h = λ none. absurd (no-other words (Check pages patience format) asks none)
  bad_words_where_due-said (Err words_fault.BadWords) asks bad h = λ none. inl h.is
  bad_words_where_due-said (Err words_fault.Memory) asks bad h = λ none. inr h.is

  -- what the call says by its clause bad_words_read_nothing
  pub bad_words_read_nothing-said : (asked : Result Asked WordsFault) → IfOk asked (λ a. AskFor words a) → (asked ≡ Err words_fault.BadWords → AreNoCommand words) → Performed left faults held sink_faults asked source source_now sink sink_now status
      → (AreNoCommand words → source_now ≡ source)
  bad_words_read_nothing-said (Ok (Run pages patience format live)) asks bad h = λ none. absurd (no-other words (Run pages patience format live) asks none)
  bad_words_read_nothing-said (Ok (Drill seed sessions notes)) asks bad h = λ none. h.reads
  bad_words_read_nothing-said (Ok Wire) asks bad h = λ none. absurd (no-other words Wire asks none)
  bad_words_read_nothing-said (Ok (Serve seats)) asks bad h = λ none. absurd (no-other words (Serve seats) asks none)
  bad_words_read_nothing-said (Ok (Check pages patience format)) asks bad h = λ none. absurd (no-other words (Check pages patience format) asks none)
  bad_words_read_nothing-said (Err words_fault.BadWords) asks bad h = λ none. h.reads
  bad_words_read_nothing-said (Err words_fault.Memory) asks bad h = λ none. h.reads

  -- what the call says by its clause bad_words_write_nothing
  pub bad_words_write_nothing-said : (asked : Result Asked WordsFault) → IfOk asked (λ a. AskFor words a) → (asked ≡ Err words_fault.BadWords → AreNoCommand words) → Performed left faults held sink_faults asked source source_now sink sink_now status
      → (AreNoCommand words → sink_now ≡ sink)
  bad_words_write_nothing-said (Ok (Run pages patience format live)) asks bad h = λ none. absurd (no-other words (Run pages patience format live) asks none)
  bad_words_write_nothing-said (Ok (Drill seed sessions notes)) asks bad h = λ none. absurd (no-other words (Drill seed sessions notes) asks none)
  bad_words_write_nothing-said (Ok Wire) asks bad h = λ none. absurd (no-other words Wire asks none)
  bad_words_write_nothing-said (Ok (Serve seats)) asks bad h = λ none. absurd (no-other words (Serve seats) asks none)
  bad_words_write_nothing-said (Ok (Check pages patience format)) asks bad h = λ none. absurd (no-other words (Check pages patience format) asks none)
  bad_words_write_nothing-said (Err words_fault.BadWords) asks bad h = λ none. h.writes
  bad_words_write_nothing-said (Err words_fault.Memory) asks bad h = λ none. h.writes

  -- what the call says by its clause bad_scenario
  pub bad_scenario-said : (asked : Result Asked WordsFault) → IfOk asked (λ a. AskFor words a) → (asked ≡ Err words_fault.BadWords → AreNoCommand words) → Performed left faults held sink_faults asked source source_now sink sink_now status
      → ((fault : ScenarioFault) → status ≡ BadScenario fault → (AskToRun words × IfSome (left source) (λ input. ReadsAsScenario input (Err fault))) ⊎ (AskToCheck words × IfSome (left source) (λ input. HasFault input fault)))
  bad_scenario-said (Ok (Run pages patience format live)) asks bad h = λ fault e. inl (
    record { pages = pages; patience = patience; format = format; live = live; asks = asks },
    h.bad_scenario fault e,
  )
  bad_scenario-said (Ok (Drill seed sessions notes)) asks bad h = λ fault e. absurd (not-bad-scenario status fault h.only e)
  bad_scenario-said (Ok Wire) asks bad h = λ fault e. absurd (subst IsOfWire e h.own)
  bad_scenario-said (Ok (Serve seats)) asks bad h = λ fault e. absurd (subst IsOfServe e h.own)
  bad_scenario-said (Ok (Check pages patience format)) asks bad h = λ fault e. inr (record { pages = pages; patience = patience; format = format; asks = asks }, check-fault (settings_with pages patience format) (left source) (held sink) (held sink_now) _ _ status h.answers fault e)
  bad_scenario-said (Err words_fault.BadWords) asks bad h = λ fault e. absurd (bad-words-alone h.is e)
  bad_scenario-said (Err words_fault.Memory) asks bad h = λ fault e. absurd (no-memory-alone h.is e)

  -- what the call says by its clause bad_scenario_where_due
  pub bad_scenario_where_due-said : (asked : Result Asked WordsFault) → IfOk asked (λ a. AskFor words a) → (asked ≡ Err words_fault.BadWords → AreNoCommand words) → Performed left faults held sink_faults asked source source_now sink sink_now status
      → ((fault : ScenarioFault) → AskToRun words → IsSomeAnd (left source) (λ input. ReadsAsScenario input (Err fault)) → ¬ Rose (faults source) (faults source_now) → (status ≡ BadScenario fault) ⊎ (status ≡ NoMemory))
  bad_scenario_where_due-said (Ok (Run pages patience format live)) asks bad h = λ fault ask reads rose. h.bad_scenario_where_due fault reads rose
  bad_scenario_where_due-said (Ok (Drill seed sessions notes)) asks bad h = λ fault ask reads rose.
      absurd (no-run words seed sessions notes asks ask)
  bad_scenario_where_due-said (Ok Wire) asks bad h = λ fault ask. absurd (wire-no_run words asks ask)
  bad_scenario_where_due-said (Ok (Serve seats)) asks bad h = λ fault ask. absurd (serve-no_run words seats asks ask)
  bad_scenario_where_due-said (Ok (Check pages patience format)) asks bad h = λ fault ask. absurd (check-no_run words pages patience format asks ask)
  bad_scenario_where_due-said (Err words_fault.BadWords) asks bad h = λ fault ask reads rose.
      absurd (none-runs words (bad refl) ask)
  bad_scenario_where_due-said (Err words_fault.Memory) asks bad h = λ fault ask reads rose. inr h.is

  -- what the call says by its clause bad_scenario_where_checked
  pub bad_scenario_where_checked-said : (asked : Result Asked WordsFault) → IfOk asked (λ a. AskFor words a) → (asked ≡ Err words_fault.BadWords → AreNoCommand words) → Performed left faults held sink_faults asked source source_now sink sink_now status
      → ((fault : ScenarioFault) → AskToCheck words → IsSomeAnd (left source) (λ input. HasFault input fault) → ¬ Rose (faults source) (faults source_now) → (status ≡ BadScenario fault) ⊎ (status ≡ NoMemory))
  bad_scenario_where_checked-said (Ok (Run pages patience format live)) asks bad h = λ fault ask. absurd (run-no_check words pages patience format live asks ask)
  bad_scenario_where_checked-said (Ok (Drill seed sessions notes)) asks bad h = λ fault ask. absurd (drill-no_check words seed sessions notes asks ask)
  bad_scenario_where_checked-said (Ok Wire) asks bad h = λ fault ask. absurd (wire-no_check words asks ask)
  bad_scenario_where_checked-said (Ok (Serve seats)) asks bad h = λ fault ask. absurd (serve-no_check words seats asks ask)
  bad_scenario_where_checked-said (Ok (Check pages patience format)) asks bad h = λ fault ask faulty reads. fault-due (settings_with pages patience format) (left source) (held sink) (held sink_now) _ _ status fault _ h.answers faulty h.read_fault reads
  bad_scenario_where_checked-said (Err words_fault.BadWords) asks bad h = λ fault ask. absurd (none-checks words (bad refl) ask)
  bad_scenario_where_checked-said (Err words_fault.Memory) asks bad h = λ fault ask faulty rose. inr h.is

  -- what the call says by its clause bad_scenario_writes_nothing
  pub bad_scenario_writes_nothing-said : (asked : Result Asked WordsFault) → IfOk asked (λ a. AskFor words a) → (asked ≡ Err words_fault.BadWords → AreNoCommand words) → Performed left faults held sink_faults asked source source_now sink sink_now status
      → ((fault : ScenarioFault) → status ≡ BadScenario fault → held sink_now ≡ held sink)
  bad_scenario_writes_nothing-said (Ok (Run pages patience format live)) asks bad h = h.bad_scenario_writes_nothing
  bad_scenario_writes_nothing-said (Ok (Drill seed sessions notes)) asks bad h = λ fault e. absurd (not-bad-scenario status fault h.only e)
  bad_scenario_writes_nothing-said (Ok Wire) asks bad h = λ fault e. absurd (subst IsOfWire e h.own)
  bad_scenario_writes_nothing-said (Ok (Serve seats)) asks bad h = λ fault e. absurd (subst IsOfServe e h.own)
  bad_scenario_writes_nothing-said (Ok (Check pages patience format)) asks bad h = λ fault e. h.nothing (subst IsUntold (sym e) tt)
  bad_scenario_writes_nothing-said (Err words_fault.BadWords) asks bad h = λ fault e. absurd (bad-words-alone h.is e)
  bad_scenario_writes_nothing-said (Err words_fault.Memory) asks bad h = λ fault e. absurd (no-memory-alone h.is e)

  -- what the call says by its clause illegal
  pub illegal-said : (asked : Result Asked WordsFault) → IfOk asked (λ a. AskFor words a) → (asked ≡ Err words_fault.BadWords → AreNoCommand words) → Performed left faults held sink_faults asked source source_now sink sink_now status
      → ((line : ℕ) → status ≡ Illegal line → (ask : AskToCheck words) × IfSome (left source) (λ input. IsJudged (asked_settings ask) input (verdict.Illegal line) × Appends (held sink) (held sink_now) (verdict_text (verdict.Illegal line))))
  illegal-said (Ok (Run pages patience format live)) asks bad h = λ line e. absurd (subst IsOfRun e h.own)
  illegal-said (Ok (Drill seed sessions notes)) asks bad h = λ line e. absurd (subst IsOfRun e (own-drill status h.only))
  illegal-said (Ok Wire) asks bad h = λ line e. absurd (subst IsOfWire e h.own)
  illegal-said (Ok (Serve seats)) asks bad h = λ line e. absurd (subst IsOfServe e h.own)
  illegal-said (Ok (Check pages patience format)) asks bad h = λ line e. (record { pages = pages; patience = patience; format = format; asks = asks }, answered-check (settings_with pages patience format) (left source) (held sink) (held sink_now) _ _ status h.answers (Illegal line) e)
  illegal-said (Err words_fault.BadWords) asks bad h = λ line e. absurd (bad-words-alone h.is e)
  illegal-said (Err words_fault.Memory) asks bad h = λ line e. absurd (no-memory-alone h.is e)

  -- what the call says by its clause illegal_where_due
  pub illegal_where_due-said : (asked : Result Asked WordsFault) → IfOk asked (λ a. AskFor words a) → (asked ≡ Err words_fault.BadWords → AreNoCommand words) → Performed left faults held sink_faults asked source source_now sink sink_now status
      → ((line : ℕ) (ask : AskToCheck words) → IsSomeAnd (left source) (λ input. IsJudged (asked_settings ask) input (verdict.Illegal line)) → ¬ Rose (faults source) (faults source_now) → ¬ Rose (sink_faults sink) (sink_faults sink_now) → (status ≡ Illegal line) ⊎ (status ≡ NoMemory))
  illegal_where_due-said (Ok (Run pages patience format live)) asks bad h = λ line ask. absurd (run-no_check words pages patience format live asks ask)
  illegal_where_due-said (Ok (Drill seed sessions notes)) asks bad h = λ line ask. absurd (drill-no_check words seed sessions notes asks ask)
  illegal_where_due-said (Ok Wire) asks bad h = λ line ask. absurd (wire-no_check words asks ask)
  illegal_where_due-said (Ok (Serve seats)) asks bad h = λ line ask. absurd (serve-no_check words seats asks ask)
  illegal_where_due-said (Ok (Check pages patience format)) asks bad h = λ line ask judged reads writes. verdict-due (settings_with pages patience format) (left source) (held sink) (held sink_now) _ _ status (verdict.Illegal line) _ h.answers (subst (λ (s : Settings). IsSomeAnd (left source) (λ xs. IsJudged s xs (verdict.Illegal line))) (same-check words pages patience format ask asks) judged) h.read_fault reads writes
  illegal_where_due-said (Err words_fault.BadWords) asks bad h = λ line ask. absurd (none-checks words (bad refl) ask)
  illegal_where_due-said (Err words_fault.Memory) asks bad h = λ line ask judged reads writes. inr h.is

  -- what the call says by its clause no_output
  pub no_output-said : (asked : Result Asked WordsFault) → IfOk asked (λ a. AskFor words a) → (asked ≡ Err words_fault.BadWords → AreNoCommand words) → Performed left faults held sink_faults asked source source_now sink sink_now status
      → (status ≡ NoOutput → AskToCheck words × IfSome (left source) HasNoOutput)
  no_output-said (Ok (Run pages patience format live)) asks bad h = λ e. absurd (subst IsOfRun e h.own)
  no_output-said (Ok (Drill seed sessions notes)) asks bad h = λ e. absurd (subst IsOfRun e (own-drill status h.only))
  no_output-said (Ok Wire) asks bad h = λ e. absurd (subst IsOfWire e h.own)
  no_output-said (Ok (Serve seats)) asks bad h = λ e. absurd (subst IsOfServe e h.own)
  no_output-said (Ok (Check pages patience format)) asks bad h = λ e. (record { pages = pages; patience = patience; format = format; asks = asks }, check-none (settings_with pages patience format) (left source) (held sink) (held sink_now) _ _ status h.answers e)
  no_output-said (Err words_fault.BadWords) asks bad h = λ e. absurd (bad-words-alone h.is e)
  no_output-said (Err words_fault.Memory) asks bad h = λ e. absurd (no-memory-alone h.is e)

  -- what the call says by its clause no_output_where_due
  pub no_output_where_due-said : (asked : Result Asked WordsFault) → IfOk asked (λ a. AskFor words a) → (asked ≡ Err words_fault.BadWords → AreNoCommand words) → Performed left faults held sink_faults asked source source_now sink sink_now status
      → (AskToCheck words → IsSomeAnd (left source) HasNoOutput → ¬ Rose (faults source) (faults source_now) → (status ≡ NoOutput) ⊎ (status ≡ NoMemory))
  no_output_where_due-said (Ok (Run pages patience format live)) asks bad h = λ ask. absurd (run-no_check words pages patience format live asks ask)
  no_output_where_due-said (Ok (Drill seed sessions notes)) asks bad h = λ ask. absurd (drill-no_check words seed sessions notes asks ask)
  no_output_where_due-said (Ok Wire) asks bad h = λ ask. absurd (wire-no_check words asks ask)
  no_output_where_due-said (Ok (Serve seats)) asks bad h = λ ask. absurd (serve-no_check words seats asks ask)
  no_output_where_due-said (Ok (Check pages patience format)) asks bad h = λ ask none reads. none-due (settings_with pages patience format) (left source) (held sink) (held sink_now) _ _ status _ h.answers none h.read_fault reads
  no_output_where_due-said (Err words_fault.BadWords) asks bad h = λ ask. absurd (none-checks words (bad refl) ask)
  no_output_where_due-said (Err words_fault.Memory) asks bad h = λ ask none reads. inr h.is

  -- what the call says by its clause no_output_writes_nothing
  pub no_output_writes_nothing-said : (asked : Result Asked WordsFault) → IfOk asked (λ a. AskFor words a) → (asked ≡ Err words_fault.BadWords → AreNoCommand words) → Performed left faults held sink_faults asked source source_now sink sink_now status
      → (status ≡ NoOutput → held sink_now ≡ held sink)
  no_output_writes_nothing-said (Ok (Run pages patience format live)) asks bad h = λ e. absurd (subst IsOfRun e h.own)
  no_output_writes_nothing-said (Ok (Drill seed sessions notes)) asks bad h = λ e. absurd (subst IsOfRun e (own-drill status h.only))
  no_output_writes_nothing-said (Ok Wire) asks bad h = λ e. absurd (subst IsOfWire e h.own)
  no_output_writes_nothing-said (Ok (Serve seats)) asks bad h = λ e. absurd (subst IsOfServe e h.own)
  no_output_writes_nothing-said (Ok (Check pages patience format)) asks bad h = λ e. h.nothing (subst IsUntold (sym e) tt)
  no_output_writes_nothing-said (Err words_fault.BadWords) asks bad h = λ e. absurd (bad-words-alone h.is e)
  no_output_writes_nothing-said (Err words_fault.Memory) asks bad h = λ e. absurd (no-memory-alone h.is e)

  -- what the call says by its clause check_too_large
  pub check_too_large-said : (asked : Result Asked WordsFault) → IfOk asked (λ a. AskFor words a) → (asked ≡ Err words_fault.BadWords → AreNoCommand words) → Performed left faults held sink_faults asked source source_now sink sink_now status
      → (status ≡ CheckTooLarge → AskToCheck words × IfSome (left source) IsTooLarge)
  check_too_large-said (Ok (Run pages patience format live)) asks bad h = λ e. absurd (subst IsOfRun e h.own)
  check_too_large-said (Ok (Drill seed sessions notes)) asks bad h = λ e. absurd (subst IsOfRun e (own-drill status h.only))
  check_too_large-said (Ok Wire) asks bad h = λ e. absurd (subst IsOfWire e h.own)
  check_too_large-said (Ok (Serve seats)) asks bad h = λ e. absurd (subst IsOfServe e h.own)
  check_too_large-said (Ok (Check pages patience format)) asks bad h = λ e. (record { pages = pages; patience = patience; format = format; asks = asks }, check-large (settings_with pages patience format) (left source) (held sink) (held sink_now) _ _ status h.answers e)
  check_too_large-said (Err words_fault.BadWords) asks bad h = λ e. absurd (bad-words-alone h.is e)
  check_too_large-said (Err words_fault.Memory) asks bad h = λ e. absurd (no-memory-alone h.is e)

  -- what the call says by its clause check_too_large_where_due
  pub check_too_large_where_due-said : (asked : Result Asked WordsFault) → IfOk asked (λ a. AskFor words a) → (asked ≡ Err words_fault.BadWords → AreNoCommand words) → Performed left faults held sink_faults asked source source_now sink sink_now status
      → (AskToCheck words → IsSomeAnd (left source) IsTooLarge → ¬ Rose (faults source) (faults source_now) → (status ≡ CheckTooLarge) ⊎ (status ≡ NoMemory))
  check_too_large_where_due-said (Ok (Run pages patience format live)) asks bad h = λ ask. absurd (run-no_check words pages patience format live asks ask)
  check_too_large_where_due-said (Ok (Drill seed sessions notes)) asks bad h = λ ask. absurd (drill-no_check words seed sessions notes asks ask)
  check_too_large_where_due-said (Ok Wire) asks bad h = λ ask. absurd (wire-no_check words asks ask)
  check_too_large_where_due-said (Ok (Serve seats)) asks bad h = λ ask. absurd (serve-no_check words seats asks ask)
  check_too_large_where_due-said (Ok (Check pages patience format)) asks bad h = λ ask large reads. large-due (settings_with pages patience format) (left source) (held sink) (held sink_now) _ _ status _ h.answers large h.read_fault reads
  check_too_large_where_due-said (Err words_fault.BadWords) asks bad h = λ ask. absurd (none-checks words (bad refl) ask)
  check_too_large_where_due-said (Err words_fault.Memory) asks bad h = λ ask large reads. inr h.is

  -- what the call says by its clause check_too_large_writes_nothing
  pub check_too_large_writes_nothing-said : (asked : Result Asked WordsFault) → IfOk asked (λ a. AskFor words a) → (asked ≡ Err words_fault.BadWords → AreNoCommand words) → Performed left faults held sink_faults asked source source_now sink sink_now status
      → (status ≡ CheckTooLarge → held sink_now ≡ held sink)
  check_too_large_writes_nothing-said (Ok (Run pages patience format live)) asks bad h = λ e. absurd (subst IsOfRun e h.own)
  check_too_large_writes_nothing-said (Ok (Drill seed sessions notes)) asks bad h = λ e. absurd (subst IsOfRun e (own-drill status h.only))
  check_too_large_writes_nothing-said (Ok Wire) asks bad h = λ e. absurd (subst IsOfWire e h.own)
  check_too_large_writes_nothing-said (Ok (Serve seats)) asks bad h = λ e. absurd (subst IsOfServe e h.own)
  check_too_large_writes_nothing-said (Ok (Check pages patience format)) asks bad h = λ e. h.nothing (subst IsUntold (sym e) tt)
  check_too_large_writes_nothing-said (Err words_fault.BadWords) asks bad h = λ e. absurd (bad-words-alone h.is e)
  check_too_large_writes_nothing-said (Err words_fault.Memory) asks bad h = λ e. absurd (no-memory-alone h.is e)

  -- what the call says by its clause read_fault
  pub read_fault-said : (asked : Result Asked WordsFault) → IfOk asked (λ a. AskFor words a) → (asked ≡ Err words_fault.BadWords → AreNoCommand words) → Performed left faults held sink_faults asked source source_now sink sink_now status
      → (status ≡ ReadFault → (AskToRun words ⊎ AskToWire words ⊎ AskToCheck words ⊎ AskToServe words) × Rose (faults source) (faults source_now))
  read_fault-said (Ok (Run pages patience format live)) asks bad h = λ e. (
    inl (record { pages = pages; patience = patience; format = format; live = live; asks = asks }),
    h.read_fault e,
  )
  read_fault-said (Ok (Drill seed sessions notes)) asks bad h = λ e. absurd (not-read-fault status h.only e)
  read_fault-said (Ok Wire) asks bad h = λ e. (inr (inl asks), h.read_fault e)
  read_fault-said (Ok (Serve seats)) asks bad h = λ e. (inr (inr (inr (record { seats = seats; asks = asks }))), h.read_fault e)
  read_fault-said (Ok (Check pages patience format)) asks bad h = λ e. (inr (inr (inl (record { pages = pages; patience = patience; format = format; asks = asks }))), h.read_fault e)
  read_fault-said (Err words_fault.BadWords) asks bad h = λ e. absurd (bad-words-alone h.is e)
  read_fault-said (Err words_fault.Memory) asks bad h = λ e. absurd (no-memory-alone h.is e)

  -- what the call says by its clause read_fault_where_due
  pub read_fault_where_due-said : (asked : Result Asked WordsFault) → IfOk asked (λ a. AskFor words a) → (asked ≡ Err words_fault.BadWords → AreNoCommand words) → Performed left faults held sink_faults asked source source_now sink sink_now status
      → (¬ AskToServe words → faults source < faults source_now → status ≡ ReadFault)
  read_fault_where_due-said (Ok (Run pages patience format live)) asks bad h = λ other e. h.read_fault_where_due e
  read_fault_where_due-said (Ok (Drill seed sessions notes)) asks bad h = λ other rose. absurd (no-rise faults source source_now h.reads rose)
  read_fault_where_due-said (Ok Wire) asks bad h = λ other e. h.read_fault_where_due e
  read_fault_where_due-said (Ok (Serve seats)) asks bad h = λ other. absurd (other (record { seats = seats; asks = asks }))
  read_fault_where_due-said (Ok (Check pages patience format)) asks bad h = λ other. h.read_fault_where_due
  read_fault_where_due-said (Err words_fault.BadWords) asks bad h = λ other rose. absurd (no-rise faults source source_now h.reads rose)
  read_fault_where_due-said (Err words_fault.Memory) asks bad h = λ other rose. absurd (no-rise faults source source_now h.reads rose)

  -- what the call says by its clause read_fault_where_served
  pub read_fault_where_served-said : (asked : Result Asked WordsFault) → IfOk asked (λ a. AskFor words a) → (asked ≡ Err words_fault.BadWords → AreNoCommand words) → Performed left faults held sink_faults asked source source_now sink sink_now status
      → (AskToServe words → faults source < faults source_now → (status ≡ ReadFault) ⊎ (status ≡ WriteFault) ⊎ (status ≡ NoMemory))
  read_fault_where_served-said (Ok (Run pages patience format live)) asks bad h = λ ask. absurd (run-no_serve words pages patience format live asks ask)
  read_fault_where_served-said (Ok (Drill seed sessions notes)) asks bad h = λ ask. absurd (drill-no_serve words seed sessions notes asks ask)
  read_fault_where_served-said (Ok Wire) asks bad h = λ ask. absurd (wire-no_serve words asks ask)
  read_fault_where_served-said (Ok (Serve seats)) asks bad h = λ ask rose. h.fault_where_due rose
  read_fault_where_served-said (Ok (Check pages patience format)) asks bad h = λ ask. absurd (check-no_serve words pages patience format asks ask)
  read_fault_where_served-said (Err words_fault.BadWords) asks bad h = λ ask. absurd (none-serves words (bad refl) ask)
  read_fault_where_served-said (Err words_fault.Memory) asks bad h = λ ask rose. inr (inr h.is)

  -- what the call says by its clause read_fault_writes_nothing
  pub read_fault_writes_nothing-said : (asked : Result Asked WordsFault) → IfOk asked (λ a. AskFor words a) → (asked ≡ Err words_fault.BadWords → AreNoCommand words) → Performed left faults held sink_faults asked source source_now sink sink_now status
      → (¬ AskToWire words → ¬ AskToServe words → status ≡ ReadFault → held sink_now ≡ held sink)
  read_fault_writes_nothing-said (Ok (Run pages patience format live)) asks bad h = λ other serve. h.read_fault_writes_nothing
  read_fault_writes_nothing-said (Ok (Drill seed sessions notes)) asks bad h = λ other serve e. absurd (not-read-fault status h.only e)
  read_fault_writes_nothing-said (Ok Wire) asks bad h = λ other. absurd (other asks)
  read_fault_writes_nothing-said (Ok (Serve seats)) asks bad h = λ wire other. absurd (other (record { seats = seats; asks = asks }))
  read_fault_writes_nothing-said (Ok (Check pages patience format)) asks bad h = λ other serve e. h.nothing (subst IsUntold (sym e) tt)
  read_fault_writes_nothing-said (Err words_fault.BadWords) asks bad h = λ other serve e. absurd (bad-words-alone h.is e)
  read_fault_writes_nothing-said (Err words_fault.Memory) asks bad h = λ other serve e. absurd (no-memory-alone h.is e)

  -- what the call says by its clause read_fault_writes_answers
  pub read_fault_writes_answers-said : (asked : Result Asked WordsFault) → IfOk asked (λ a. AskFor words a) → (asked ≡ Err words_fault.BadWords → AreNoCommand words) → Performed left faults held sink_faults asked source source_now sink sink_now status
      → (AskToWire words → status ≡ ReadFault → IfSome (left source) (λ bytes. StopsBetween bytes (Appends (held sink) (held sink_now))))
  read_fault_writes_answers-said (Ok (Run pages patience format live)) asks bad h = λ ask. absurd (run-no_wire words pages patience format live asks ask)
  read_fault_writes_answers-said (Ok (Drill seed sessions notes)) asks bad h = λ ask. absurd (drill-no_wire words seed sessions notes asks ask)
  read_fault_writes_answers-said (Ok Wire) asks bad h = λ ask. read-wire (left source) (held sink) (held sink_now) status h.answers
  read_fault_writes_answers-said (Ok (Serve seats)) asks bad h = λ ask. absurd (serve-no_wire words seats asks ask)
  read_fault_writes_answers-said (Ok (Check pages patience format)) asks bad h = λ ask. absurd (check-no_wire words pages patience format asks ask)
  read_fault_writes_answers-said (Err words_fault.BadWords) asks bad h = λ ask. absurd (none-wires words (bad refl) ask)
  read_fault_writes_answers-said (Err words_fault.Memory) asks bad h = λ ask e. absurd (no-memory-alone h.is e)

  -- what the call says by its clause read_fault_writes_what_was_told
  pub read_fault_writes_what_was_told-said : (asked : Result Asked WordsFault) → IfOk asked (λ a. AskFor words a) → (asked ≡ Err words_fault.BadWords → AreNoCommand words) → Performed left faults held sink_faults asked source source_now sink sink_now status
      → ((ask : AskToServe words) → status ≡ ReadFault → IfSome (left source) (λ bytes. ServesFirst ask.seats bytes (Appends (held sink) (held sink_now))))
  read_fault_writes_what_was_told-said (Ok (Run pages patience format live)) asks bad h = λ ask. absurd (run-no_serve words pages patience format live asks ask)
  read_fault_writes_what_was_told-said (Ok (Drill seed sessions notes)) asks bad h = λ ask. absurd (drill-no_serve words seed sessions notes asks ask)
  read_fault_writes_what_was_told-said (Ok Wire) asks bad h = λ ask. absurd (wire-no_serve words asks ask)
  read_fault_writes_what_was_told-said (Ok (Serve seats)) asks bad h = λ ask e. read-serve seats (left source) (held sink) (held sink_now) status h.answers ask.seats (same-seats words seats ask asks) e
  read_fault_writes_what_was_told-said (Ok (Check pages patience format)) asks bad h = λ ask. absurd (check-no_serve words pages patience format asks ask)
  read_fault_writes_what_was_told-said (Err words_fault.BadWords) asks bad h = λ ask. absurd (none-serves words (bad refl) ask)
  read_fault_writes_what_was_told-said (Err words_fault.Memory) asks bad h = λ ask e. absurd (no-memory-alone h.is e)

  -- what the call says by its clause write_fault
  pub write_fault-said : (asked : Result Asked WordsFault) → IfOk asked (λ a. AskFor words a) → (asked ≡ Err words_fault.BadWords → AreNoCommand words) → Performed left faults held sink_faults asked source source_now sink sink_now status
      → (status ≡ WriteFault → Rose (sink_faults sink) (sink_faults sink_now))
  write_fault-said (Ok (Run pages patience format live)) asks bad h = h.write_fault
  write_fault-said (Ok (Drill seed sessions notes)) asks bad h = h.write_fault
  write_fault-said (Ok Wire) asks bad h = h.write_fault
  write_fault-said (Ok (Serve seats)) asks bad h = h.write_fault
  write_fault-said (Ok (Check pages patience format)) asks bad h = h.write_fault
  write_fault-said (Err words_fault.BadWords) asks bad h = λ e. absurd (bad-words-alone h.is e)
  write_fault-said (Err words_fault.Memory) asks bad h = λ e. absurd (no-memory-alone h.is e)

  -- what the call says by its clause write_fault_where_due
  pub write_fault_where_due-said : (asked : Result Asked WordsFault) → IfOk asked (λ a. AskFor words a) → (asked ≡ Err words_fault.BadWords → AreNoCommand words) → Performed left faults held sink_faults asked source source_now sink sink_now status
      → (sink_faults sink < sink_faults sink_now → status ≡ WriteFault)
  write_fault_where_due-said (Ok (Run pages patience format live)) asks bad h = h.write_fault_where_due
  write_fault_where_due-said (Ok (Drill seed sessions notes)) asks bad h = h.write_fault_where_due
  write_fault_where_due-said (Ok Wire) asks bad h = h.write_fault_where_due
  write_fault_where_due-said (Ok (Serve seats)) asks bad h = h.write_fault_where_due
  write_fault_where_due-said (Ok (Check pages patience format)) asks bad h = h.write_fault_where_due
  write_fault_where_due-said (Err words_fault.BadWords) asks bad h = λ rose. absurd (no-rise sink_faults sink sink_now h.writes rose)
  write_fault_where_due-said (Err words_fault.Memory) asks bad h = λ rose. absurd (no-rise sink_faults sink sink_now h.writes rose)

  -- what the call says by its clause write_fault_writes_a_prefix
  pub write_fault_writes_a_prefix-said : (asked : Result Asked WordsFault) → IfOk asked (λ a. AskFor words a) → (asked ≡ Err words_fault.BadWords → AreNoCommand words) → Performed left faults held sink_faults asked source source_now sink sink_now status
      → (status ≡ WriteFault → PerformsInPart words (left source) (AppendsPrefix (held sink) (held sink_now)))
  write_fault_writes_a_prefix-said (Ok (Run pages patience format live)) asks bad h = λ e. record { asked = Run pages patience format live; asks = asks; done = h.write_fault_writes_a_prefix e }
  write_fault_writes_a_prefix-said (Ok (Drill seed sessions notes)) asks bad h = λ e. record {
    asked = Drill seed sessions notes;
    asks = asks;
    done = h.write_fault_writes_a_prefix e;
  }
  write_fault_writes_a_prefix-said (Ok Wire) asks bad h = λ e. record { asked = Wire; asks = asks; done = write-wire (left source) (held sink) (held sink_now) status h.answers e }
  write_fault_writes_a_prefix-said (Ok (Serve seats)) asks bad h = λ e. record { asked = Serve seats; asks = asks; done = write-serve seats (left source) (held sink) (held sink_now) status h.answers e }
  write_fault_writes_a_prefix-said (Ok (Check pages patience format)) asks bad h = λ e. record { asked = Check pages patience format; asks = asks; done = check-part (settings_with pages patience format) (left source) (held sink) (held sink_now) _ _ status h.answers e }
  write_fault_writes_a_prefix-said (Err words_fault.BadWords) asks bad h = λ e. absurd (bad-words-alone h.is e)
  write_fault_writes_a_prefix-said (Err words_fault.Memory) asks bad h = λ e. absurd (no-memory-alone h.is e)

  -- what the call says by its clause no_memory_writes_nothing
  pub no_memory_writes_nothing-said : (asked : Result Asked WordsFault) → IfOk asked (λ a. AskFor words a) → (asked ≡ Err words_fault.BadWords → AreNoCommand words) → Performed left faults held sink_faults asked source source_now sink sink_now status
      → (¬ AskToRunLive words → ¬ AskToWire words → ¬ AskToServe words → status ≡ NoMemory → held sink_now ≡ held sink)
  no_memory_writes_nothing-said (Ok (Run pages patience format live)) asks bad h = λ once other serve e. h.no_memory_writes_nothing Text (shows-once words pages patience format live once asks) e
  no_memory_writes_nothing-said (Ok (Drill seed sessions notes)) asks bad h = λ once other serve. h.no_memory_writes_nothing
  no_memory_writes_nothing-said (Ok Wire) asks bad h = λ once other. absurd (other asks)
  no_memory_writes_nothing-said (Ok (Serve seats)) asks bad h = λ once wire other. absurd (other (record { seats = seats; asks = asks }))
  no_memory_writes_nothing-said (Ok (Check pages patience format)) asks bad h = λ once other serve e. h.nothing (subst IsUntold (sym e) tt)
  no_memory_writes_nothing-said (Err words_fault.BadWords) asks bad h = λ once other serve e. absurd (bad-words-alone h.is e)
  no_memory_writes_nothing-said (Err words_fault.Memory) asks bad h = λ once other serve e. ap held h.writes

  -- what the call says by its clause no_memory_writes_first_lines
  pub no_memory_writes_first_lines-said : (asked : Result Asked WordsFault) → IfOk asked (λ a. AskFor words a) → (asked ≡ Err words_fault.BadWords → AreNoCommand words) → Performed left faults held sink_faults asked source source_now sink sink_now status
      → ((ask : AskToRunLive words) → status ≡ NoMemory → (held sink_now ≡ held sink) ⊎ IfSome (left source) (λ input. SoFarRuns (settings_with ask.pages ask.patience ask.format) input (Appends (held sink) (held sink_now))))
  no_memory_writes_first_lines-said (Ok (Run pages patience format live)) asks bad h = λ ask e.
      let same = same-run words pages patience format live ask asks in
      rw (same.0, same.1, same.2)
      (elim (h.no_memory_writes_first_lines e) [
        | inl nothing ↦ inl nothing
        | inr part ↦ so_far-known (left source) (shows_if live) _ _ _ (ap shows_if same.3) part
      ])
  no_memory_writes_first_lines-said (Ok (Drill seed sessions notes)) asks bad h = λ ask e. inl (h.no_memory_writes_nothing e)
  no_memory_writes_first_lines-said (Ok Wire) asks bad h = λ ask. absurd (wire-no_run words asks (live-runs words ask))
  no_memory_writes_first_lines-said (Ok (Serve seats)) asks bad h = λ ask. absurd (serve-no_run words seats asks (live-runs words ask))
  no_memory_writes_first_lines-said (Ok (Check pages patience format)) asks bad h = λ ask. absurd (check-no_run words pages patience format asks (live-runs words ask))
  no_memory_writes_first_lines-said (Err words_fault.BadWords) asks bad h = λ ask e. absurd (bad-words-alone h.is e)
  no_memory_writes_first_lines-said (Err words_fault.Memory) asks bad h = λ ask e. inl (ap held h.writes)

  -- what the call says by its clause no_memory_writes_whole_answers
  pub no_memory_writes_whole_answers-said : (asked : Result Asked WordsFault) → IfOk asked (λ a. AskFor words a) → (asked ≡ Err words_fault.BadWords → AreNoCommand words) → Performed left faults held sink_faults asked source source_now sink sink_now status
      → (AskToWire words → status ≡ NoMemory → IfSome (left source) (λ bytes. StopsAmong bytes (WroteWhole (held sink) (held sink_now))))
  no_memory_writes_whole_answers-said (Ok (Run pages patience format live)) asks bad h = λ ask. absurd (run-no_wire words pages patience format live asks ask)
  no_memory_writes_whole_answers-said (Ok (Drill seed sessions notes)) asks bad h = λ ask. absurd (drill-no_wire words seed sessions notes asks ask)
  no_memory_writes_whole_answers-said (Ok Wire) asks bad h = λ ask. memory-wire (left source) (held sink) (held sink_now) status h.answers
  no_memory_writes_whole_answers-said (Ok (Serve seats)) asks bad h = λ ask. absurd (serve-no_wire words seats asks ask)
  no_memory_writes_whole_answers-said (Ok (Check pages patience format)) asks bad h = λ ask. absurd (check-no_wire words pages patience format asks ask)
  no_memory_writes_whole_answers-said (Err words_fault.BadWords) asks bad h = λ ask. absurd (none-wires words (bad refl) ask)
  no_memory_writes_whole_answers-said (Err words_fault.Memory) asks bad h = λ ask e. subst (λ (k : K). IfSome (left source) (λ bytes. StopsAmong bytes (WroteWhole (held sink) (held k)))) (sym h.writes) (unopened-known (left source) (held sink))

  -- what the call says by its clause no_memory_writes_whole_turns
  pub no_memory_writes_whole_turns-said : (asked : Result Asked WordsFault) → IfOk asked (λ a. AskFor words a) → (asked ≡ Err words_fault.BadWords → AreNoCommand words) → Performed left faults held sink_faults asked source source_now sink sink_now status
      → ((ask : AskToServe words) → status ≡ NoMemory → (held sink_now ≡ held sink) ⊎ IfSome (left source) (λ bytes. StopsServing ask.seats bytes (Appends (held sink) (held sink_now))))
  no_memory_writes_whole_turns-said (Ok (Run pages patience format live)) asks bad h = λ ask. absurd (run-no_serve words pages patience format live asks ask)
  no_memory_writes_whole_turns-said (Ok (Drill seed sessions notes)) asks bad h = λ ask. absurd (drill-no_serve words seed sessions notes asks ask)
  no_memory_writes_whole_turns-said (Ok Wire) asks bad h = λ ask. absurd (wire-no_serve words asks ask)
  no_memory_writes_whole_turns-said (Ok (Serve seats)) asks bad h = λ ask e. memory-serve seats (left source) (held sink) (held sink_now) status h.answers ask.seats (same-seats words seats ask asks) e
  no_memory_writes_whole_turns-said (Ok (Check pages patience format)) asks bad h = λ ask. absurd (check-no_serve words pages patience format asks ask)
  no_memory_writes_whole_turns-said (Err words_fault.BadWords) asks bad h = λ ask. absurd (none-serves words (bad refl) ask)
  no_memory_writes_whole_turns-said (Err words_fault.Memory) asks bad h = λ ask e. inl (ap held h.writes)

  -- what the call says by its clause bad_wire
  pub bad_wire-said : (asked : Result Asked WordsFault) → IfOk asked (λ a. AskFor words a) → (asked ≡ Err words_fault.BadWords → AreNoCommand words) → Performed left faults held sink_faults asked source source_now sink sink_now status
      → ((fault : WireFault) → status ≡ BadWire fault → AskToWire words × IfSome (left source) (λ bytes. BreaksOff bytes fault (Appends (held sink) (held sink_now))))
  bad_wire-said (Ok (Run pages patience format live)) asks bad h = λ fault e. absurd (subst IsOfRun e h.own)
  bad_wire-said (Ok (Drill seed sessions notes)) asks bad h = λ fault e. absurd (not-bad-wire status fault h.only e)
  bad_wire-said (Ok Wire) asks bad h = λ fault e. (asks, bad-wire (left source) (held sink) (held sink_now) status h.answers fault e)
  bad_wire-said (Ok (Serve seats)) asks bad h = λ fault e. absurd (subst IsOfServe e h.own)
  bad_wire-said (Ok (Check pages patience format)) asks bad h = λ fault e. absurd (subst IsOfCheck e h.own)
  bad_wire-said (Err words_fault.BadWords) asks bad h = λ fault e. absurd (bad-words-alone h.is e)
  bad_wire-said (Err words_fault.Memory) asks bad h = λ fault e. absurd (no-memory-alone h.is e)

  -- what the call says by its clause bad_wire_where_due
  pub bad_wire_where_due-said : (asked : Result Asked WordsFault) → IfOk asked (λ a. AskFor words a) → (asked ≡ Err words_fault.BadWords → AreNoCommand words) → Performed left faults held sink_faults asked source source_now sink sink_now status
      → ((fault : WireFault) → AskToWire words → IsSomeAnd (left source) (λ bytes. EndsIn bytes (Some fault)) → ¬ Rose (faults source) (faults source_now) → ¬ Rose (sink_faults sink) (sink_faults sink_now) → (status ≡ BadWire fault) ⊎ (status ≡ NoMemory))
  bad_wire_where_due-said (Ok (Run pages patience format live)) asks bad h = λ fault ask. absurd (run-no_wire words pages patience format live asks ask)
  bad_wire_where_due-said (Ok (Drill seed sessions notes)) asks bad h = λ fault ask. absurd (drill-no_wire words seed sessions notes asks ask)
  bad_wire_where_due-said (Ok Wire) asks bad h = λ fault ask ends reads writes. wire-refused (left source) (held sink) (held sink_now) status fault _ _ h.answers ends h.read_fault h.write_fault reads writes
  bad_wire_where_due-said (Ok (Serve seats)) asks bad h = λ fault ask. absurd (serve-no_wire words seats asks ask)
  bad_wire_where_due-said (Ok (Check pages patience format)) asks bad h = λ fault ask. absurd (check-no_wire words pages patience format asks ask)
  bad_wire_where_due-said (Err words_fault.BadWords) asks bad h = λ fault ask. absurd (none-wires words (bad refl) ask)
  bad_wire_where_due-said (Err words_fault.Memory) asks bad h = λ fault ask ends reads writes. inr h.is

  -- what the call says by its clause bad_frame
  pub bad_frame-said : (asked : Result Asked WordsFault) → IfOk asked (λ a. AskFor words a) → (asked ≡ Err words_fault.BadWords → AreNoCommand words) → Performed left faults held sink_faults asked source source_now sink sink_now status
      → ((fault : FrameFault) → status ≡ BadFrame fault → (ask : AskToServe words) × IfSome (left source) (λ bytes. ServesAll ask.seats bytes (Some fault) (Appends (held sink) (held sink_now))))
  bad_frame-said (Ok (Run pages patience format live)) asks bad h = λ fault e. absurd (subst IsOfRun e h.own)
  bad_frame-said (Ok (Drill seed sessions notes)) asks bad h = λ fault e. absurd (not-bad-frame status fault h.only e)
  bad_frame-said (Ok Wire) asks bad h = λ fault e. absurd (subst IsOfWire e h.own)
  bad_frame-said (Ok (Serve seats)) asks bad h = λ fault e. ((record { seats = seats; asks = asks }), bad-serve seats (left source) (held sink) (held sink_now) status h.answers fault e)
  bad_frame-said (Ok (Check pages patience format)) asks bad h = λ fault e. absurd (subst IsOfCheck e h.own)
  bad_frame-said (Err words_fault.BadWords) asks bad h = λ fault e. absurd (bad-words-alone h.is e)
  bad_frame-said (Err words_fault.Memory) asks bad h = λ fault e. absurd (no-memory-alone h.is e)

  -- what the call says by its clause bad_frame_where_due
  pub bad_frame_where_due-said : (asked : Result Asked WordsFault) → IfOk asked (λ a. AskFor words a) → (asked ≡ Err words_fault.BadWords → AreNoCommand words) → Performed left faults held sink_faults asked source source_now sink sink_now status
      → ((fault : FrameFault) (ask : AskToServe words) → IsSomeAnd (left source) (λ bytes. HasFrames ask.seats bytes (Some fault)) → ¬ Rose (faults source) (faults source_now) → ¬ Rose (sink_faults sink) (sink_faults sink_now) → (status ≡ BadFrame fault) ⊎ (status ≡ NoMemory))
  bad_frame_where_due-said (Ok (Run pages patience format live)) asks bad h = λ fault ask. absurd (run-no_serve words pages patience format live asks ask)
  bad_frame_where_due-said (Ok (Drill seed sessions notes)) asks bad h = λ fault ask. absurd (drill-no_serve words seed sessions notes asks ask)
  bad_frame_where_due-said (Ok Wire) asks bad h = λ fault ask. absurd (wire-no_serve words asks ask)
  bad_frame_where_due-said (Ok (Serve seats)) asks bad h = λ fault ask ends reads writes. serve-refused ask.seats seats (left source) (held sink) (held sink_now) status fault _ _ (same-seats words seats ask asks) h.answers ends h.read_fault h.write_fault reads writes
  bad_frame_where_due-said (Ok (Check pages patience format)) asks bad h = λ fault ask. absurd (check-no_serve words pages patience format asks ask)
  bad_frame_where_due-said (Err words_fault.BadWords) asks bad h = λ fault ask. absurd (none-serves words (bad refl) ask)
  bad_frame_where_due-said (Err words_fault.Memory) asks bad h = λ fault ask ends reads writes. inr h.is

  -- what the call says by its clause what_was_read
  pub what_was_read-said : (asked : Result Asked WordsFault) → IfOk asked (λ a. AskFor words a) → (asked ≡ Err words_fault.BadWords → AreNoCommand words) → Performed left faults held sink_faults asked source source_now sink sink_now status
      → (AskToRun words → HasRead status → IfSome (left source) (λ input. Consumes (left source) (left source_now) (take (INPUT_BYTES_MAX + 1) input)))
  what_was_read-said (Ok (Run pages patience format live)) asks bad h = λ ask. h.what_was_read
  what_was_read-said (Ok (Drill seed sessions notes)) asks bad h = λ ask read.
      absurd (no-run words seed sessions notes asks ask)
  what_was_read-said (Ok Wire) asks bad h = λ ask. absurd (wire-no_run words asks ask)
  what_was_read-said (Ok (Serve seats)) asks bad h = λ ask. absurd (serve-no_run words seats asks ask)
  what_was_read-said (Ok (Check pages patience format)) asks bad h = λ ask. absurd (check-no_run words pages patience format asks ask)
  what_was_read-said (Err words_fault.BadWords) asks bad h = λ ask read. absurd (subst HasRead h.is read)
  what_was_read-said (Err words_fault.Memory) asks bad h = λ ask read. absurd (subst HasRead h.is read)

  -- what the call says by its clause what_was_checked
  pub what_was_checked-said : (asked : Result Asked WordsFault) → IfOk asked (λ a. AskFor words a) → (asked ≡ Err words_fault.BadWords → AreNoCommand words) → Performed left faults held sink_faults asked source source_now sink sink_now status
      → (AskToCheck words → HasRead status → IfSome (left source) (λ input. Consumes (left source) (left source_now) (take (CHECK_BYTES_MAX + 1) input)))
  what_was_checked-said (Ok (Run pages patience format live)) asks bad h = λ ask. absurd (run-no_check words pages patience format live asks ask)
  what_was_checked-said (Ok (Drill seed sessions notes)) asks bad h = λ ask. absurd (drill-no_check words seed sessions notes asks ask)
  what_was_checked-said (Ok Wire) asks bad h = λ ask. absurd (wire-no_check words asks ask)
  what_was_checked-said (Ok (Serve seats)) asks bad h = λ ask. absurd (serve-no_check words seats asks ask)
  what_was_checked-said (Ok (Check pages patience format)) asks bad h = λ ask. h.what_was_read
  what_was_checked-said (Err words_fault.BadWords) asks bad h = λ ask read. absurd (subst HasRead h.is read)
  what_was_checked-said (Err words_fault.Memory) asks bad h = λ ask read. absurd (subst HasRead h.is read)

  -- what the call says by its clause drill_reads_nothing
  pub drill_reads_nothing-said : (asked : Result Asked WordsFault) → IfOk asked (λ a. AskFor words a) → (asked ≡ Err words_fault.BadWords → AreNoCommand words) → Performed left faults held sink_faults asked source source_now sink sink_now status
      → (AskToDrill words → source_now ≡ source)
  drill_reads_nothing-said (Ok (Run pages patience format live)) asks bad h = λ ask.
      absurd (no-drill words pages patience format live asks ask)
  drill_reads_nothing-said (Ok (Drill seed sessions notes)) asks bad h = λ ask. h.reads
  drill_reads_nothing-said (Ok Wire) asks bad h = λ ask. absurd (wire-no_drill words asks ask)
  drill_reads_nothing-said (Ok (Serve seats)) asks bad h = λ ask. absurd (serve-no_drill words seats asks ask)
  drill_reads_nothing-said (Ok (Check pages patience format)) asks bad h = λ ask. absurd (check-no_drill words pages patience format asks ask)
  drill_reads_nothing-said (Err words_fault.BadWords) asks bad h = λ ask. h.reads
  drill_reads_nothing-said (Err words_fault.Memory) asks bad h = λ ask. h.reads

  -- what the call says by its clause complete
  pub complete-said : (asked : Result Asked WordsFault) → IfOk asked (λ a. AskFor words a) → (asked ≡ Err words_fault.BadWords → AreNoCommand words) → Performed left faults held sink_faults asked source source_now sink sink_now status
      → ((scenario : Scenario) → AskToRun words → IsSomeAnd (left source) (λ input. ReadsAsScenario input (Ok scenario)) → ¬ Rose (faults source) (faults source_now) → ¬ Rose (sink_faults sink) (sink_faults sink_now) → (status ≡ Done) ⊎ (status ≡ NoMemory))
  complete-said (Ok (Run pages patience format live)) asks bad h = λ scenario ask. h.complete scenario
  complete-said (Ok (Drill seed sessions notes)) asks bad h = λ scenario ask reads source_rose sink_rose.
      absurd (no-run words seed sessions notes asks ask)
  complete-said (Ok Wire) asks bad h = λ scenario ask. absurd (wire-no_run words asks ask)
  complete-said (Ok (Serve seats)) asks bad h = λ scenario ask. absurd (serve-no_run words seats asks ask)
  complete-said (Ok (Check pages patience format)) asks bad h = λ scenario ask. absurd (check-no_run words pages patience format asks ask)
  complete-said (Err words_fault.BadWords) asks bad h = λ scenario ask reads source_rose sink_rose.
      absurd (none-runs words (bad refl) ask)
  complete-said (Err words_fault.Memory) asks bad h = λ scenario ask reads source_rose sink_rose. inr h.is

  -- what the call says by its clause wire_complete
  pub wire_complete-said : (asked : Result Asked WordsFault) → IfOk asked (λ a. AskFor words a) → (asked ≡ Err words_fault.BadWords → AreNoCommand words) → Performed left faults held sink_faults asked source source_now sink sink_now status
      → (AskToWire words → IsSomeAnd (left source) (λ bytes. EndsIn bytes None) → ¬ Rose (faults source) (faults source_now) → ¬ Rose (sink_faults sink) (sink_faults sink_now) → (status ≡ Done) ⊎ (status ≡ NoMemory))
  wire_complete-said (Ok (Run pages patience format live)) asks bad h = λ ask. absurd (run-no_wire words pages patience format live asks ask)
  wire_complete-said (Ok (Drill seed sessions notes)) asks bad h = λ ask. absurd (drill-no_wire words seed sessions notes asks ask)
  wire_complete-said (Ok Wire) asks bad h = λ ask ends reads writes. wire-completes (left source) (held sink) (held sink_now) status _ _ h.answers ends h.read_fault h.write_fault reads writes
  wire_complete-said (Ok (Serve seats)) asks bad h = λ ask. absurd (serve-no_wire words seats asks ask)
  wire_complete-said (Ok (Check pages patience format)) asks bad h = λ ask. absurd (check-no_wire words pages patience format asks ask)
  wire_complete-said (Err words_fault.BadWords) asks bad h = λ ask. absurd (none-wires words (bad refl) ask)
  wire_complete-said (Err words_fault.Memory) asks bad h = λ ask ends reads writes. inr h.is

  -- what the call says by its clause serve_complete
  pub serve_complete-said : (asked : Result Asked WordsFault) → IfOk asked (λ a. AskFor words a) → (asked ≡ Err words_fault.BadWords → AreNoCommand words) → Performed left faults held sink_faults asked source source_now sink sink_now status
      → ((ask : AskToServe words) → IsSomeAnd (left source) (λ bytes. HasFrames ask.seats bytes None) → ¬ Rose (faults source) (faults source_now) → ¬ Rose (sink_faults sink) (sink_faults sink_now) → (status ≡ Done) ⊎ (status ≡ NoMemory))
  serve_complete-said (Ok (Run pages patience format live)) asks bad h = λ ask. absurd (run-no_serve words pages patience format live asks ask)
  serve_complete-said (Ok (Drill seed sessions notes)) asks bad h = λ ask. absurd (drill-no_serve words seed sessions notes asks ask)
  serve_complete-said (Ok Wire) asks bad h = λ ask. absurd (wire-no_serve words asks ask)
  serve_complete-said (Ok (Serve seats)) asks bad h = λ ask ends reads writes. serve-completes ask.seats seats (left source) (held sink) (held sink_now) status _ _ (same-seats words seats ask asks) h.answers ends h.read_fault h.write_fault reads writes
  serve_complete-said (Ok (Check pages patience format)) asks bad h = λ ask. absurd (check-no_serve words pages patience format asks ask)
  serve_complete-said (Err words_fault.BadWords) asks bad h = λ ask. absurd (none-serves words (bad refl) ask)
  serve_complete-said (Err words_fault.Memory) asks bad h = λ ask ends reads writes. inr h.is

  -- what the call says by its clause check_complete
  pub check_complete-said : (asked : Result Asked WordsFault) → IfOk asked (λ a. AskFor words a) → (asked ≡ Err words_fault.BadWords → AreNoCommand words) → Performed left faults held sink_faults asked source source_now sink sink_now status
      → ((ask : AskToCheck words) → IsSomeAnd (left source) (λ input. IsJudged (asked_settings ask) input verdict.Legal) → ¬ Rose (faults source) (faults source_now) → ¬ Rose (sink_faults sink) (sink_faults sink_now) → (status ≡ Done) ⊎ (status ≡ NoMemory))
  check_complete-said (Ok (Run pages patience format live)) asks bad h = λ ask. absurd (run-no_check words pages patience format live asks ask)
  check_complete-said (Ok (Drill seed sessions notes)) asks bad h = λ ask. absurd (drill-no_check words seed sessions notes asks ask)
  check_complete-said (Ok Wire) asks bad h = λ ask. absurd (wire-no_check words asks ask)
  check_complete-said (Ok (Serve seats)) asks bad h = λ ask. absurd (serve-no_check words seats asks ask)
  check_complete-said (Ok (Check pages patience format)) asks bad h = λ ask judged reads writes. verdict-due (settings_with pages patience format) (left source) (held sink) (held sink_now) _ _ status (verdict.Legal) _ h.answers (subst (λ (s : Settings). IsSomeAnd (left source) (λ xs. IsJudged s xs (verdict.Legal))) (same-check words pages patience format ask asks) judged) h.read_fault reads writes
  check_complete-said (Err words_fault.BadWords) asks bad h = λ ask. absurd (none-checks words (bad refl) ask)
  check_complete-said (Err words_fault.Memory) asks bad h = λ ask judged reads writes. inr h.is

  -- what the call says by its clause drill_complete
  pub drill_complete-said : (asked : Result Asked WordsFault) → IfOk asked (λ a. AskFor words a) → (asked ≡ Err words_fault.BadWords → AreNoCommand words) → Performed left faults held sink_faults asked source source_now sink sink_now status
      → (AskToDrill words → ¬ Rose (sink_faults sink) (sink_faults sink_now) → (status ≡ Done) ⊎ (status ≡ NoMemory))
  drill_complete-said (Ok (Run pages patience format live)) asks bad h = λ ask rose.
      absurd (no-drill words pages patience format live asks ask)
  drill_complete-said (Ok (Drill seed sessions notes)) asks bad h = λ ask none. drill-completes status _ h.only h.write_fault none
  drill_complete-said (Ok Wire) asks bad h = λ ask. absurd (wire-no_drill words asks ask)
  drill_complete-said (Ok (Serve seats)) asks bad h = λ ask. absurd (serve-no_drill words seats asks ask)
  drill_complete-said (Ok (Check pages patience format)) asks bad h = λ ask. absurd (check-no_drill words pages patience format asks ask)
  drill_complete-said (Err words_fault.BadWords) asks bad h = λ ask none.
      absurd (none-drills words (bad refl) ask)
  drill_complete-said (Err words_fault.Memory) asks bad h = λ ask rose. inr h.is
