-- From the text of a run that was written to what is said of the run of a scenario, and from that to what is said of its input.
use Rattle.std.proofs.Common.{◌≡◌, ℕ, ◌⊎◌, List, Option, Result, Ok, Err, map, sym, ap, subst, ◌∙◌, refl, inl, inr}
use Rattle.std.specs.Io.KnownBytes.{Appends}
use Rattle.pgn_base.specs.Outside.{AppendsPrefix, Rose}
use Rattle.pgn_journal.specs.declared.tx.Tx.{Tx}
use Rattle.pgn_language.specs.declared.scenario.Scenario.{Scenario}
use Rattle.pgn_language.specs.declared.scenario.ScenarioFault.{ScenarioFault}
use Rattle.pgn_model.specs.declared.trace.Trace.{Trace}
use Rattle.pgn_language.specs.Inputs.{ReadsAsScenario}
use Rattle.pgn_language.proofs.InputLaws.{reads-input}
use Rattle.pgn_frames.specs.declared.frame_fault.FrameFault.{FrameFault}
use Rattle.pgn_queries.specs.declared.wire_fault.WireFault.{WireFault}
use Rattle.pgn_model.specs.Walk.{Settings}
use Rattle.pgn_reading.specs.Bare.{IsLegalBare, bare}
use Rattle.pgn_reading.proofs.BareLaws.{text-bare, brief-bare}
use Rattle.pgn_run.specs.declared.status.Status.{Status}
use Rattle.pgn_run.specs.declared.status.Status.TheVariants.{Done, BadWords, BadScenario, ReadFault, WriteFault, NoMemory, BadWire, BadFrame, Illegal, NoOutput, CheckTooLarge}
use Rattle.pgn_run.specs.Run.{Runs, RunsOver, HasWritten, Answers, IsOfRun, printed}
use Rattle.pgn_run.specs.Live.{EarlyOver, LiveOver, SoFarOver}
use Rattle.pgn_run.specs.declared.print.Shows.TheVariants.{AtEnd, Live}
use Rattle.pgn_run.specs.declared.print.Print.{Print}
use Rattle.pgn_run.specs.declared.print.Print.TheVariants.{Text, Summary}

-- want of memory is no good end
pub memory-done : {A : Type 0} → NoMemory ≡ Done → A
memory-done e = absurd (cc)

-- want of memory is no write fault
pub memory-fault : {A : Type 0} → NoMemory ≡ WriteFault → A
memory-fault e = absurd (cc)

-- a write fault is no good end
pub fault-done : {A : Type 0} → WriteFault ≡ Done → A
fault-done e = absurd (cc)

-- a write fault is no want of memory
pub fault-memory : {A : Type 0} → WriteFault ≡ NoMemory → A
fault-memory e = absurd (cc)

-- what is written of a run shows nothing of what a bare one lacks
printed-bare : (print : Print) (scenario : Scenario) (journal : List Tx) (traces : List Trace) → printed print scenario journal (map bare traces) ≡ printed print scenario journal traces
printed-bare Text scenario journal traces = text-bare scenario journal traces
printed-bare (Summary seed notes) scenario journal traces = brief-bare seed notes journal traces

module _ (print : Print) (scenario : Scenario) (settings : Settings) (journal : List Tx) (traces : List Trace) (old new : Option (List ℕ)) (before now : ℕ) (status : Status)
    (legal : IsLegalBare scenario settings journal traces) (written : HasWritten (printed print scenario journal traces) old new before now status) where
  -- what was written where the outcome is known
  outcome : (other : Status) → status ≡ other → HasWritten (printed print scenario journal legal.whole) old new before now other
  outcome other e =
      subst (λ (all : List ℕ). HasWritten all old new before now other)
      (ap (λ (ts : List Trace). printed print scenario journal ts) legal.are_bare ∙ printed-bare print scenario journal legal.whole)
      (subst (λ (s : Status). HasWritten (printed print scenario journal traces) old new before now s) e written)

  -- a run of which all was written is one of which it is known what was
  pub done-over : status ≡ Done → RunsOver print scenario settings (Appends old new)
  done-over e = record { journal = journal; traces = legal.whole; legal = legal.legal; output = outcome Done e }

  -- and one with a write fault is one of which a prefix was
  pub prefix-over : status ≡ WriteFault → RunsOver print scenario settings (AppendsPrefix old new)
  prefix-over e = record { journal = journal; traces = legal.whole; legal = legal.legal; output = (outcome WriteFault e).0 }

-- a write fault has its cause
pub fault-over : (all : List ℕ) (old new : Option (List ℕ)) (before now : ℕ) (status : Status) → HasWritten all old new before now status → status ≡ WriteFault → Rose before now
fault-over all old new before now status written e = let known : HasWritten all old new before now WriteFault = subst (λ (s : Status). HasWritten all old new before now s) e written in known.1

-- a run that was written took no want of memory for its outcome
pub memory-over : (all : List ℕ) (old new : Option (List ℕ)) (before now : ℕ) (status : Status) → HasWritten all old new before now status → status ≡ NoMemory → new ≡ old
memory-over all old new before now status written e = let known : HasWritten all old new before now NoMemory = subst (λ (s : Status). HasWritten all old new before now s) e written in known

-- the outcomes of a run that was written
pub only-over : (all : List ℕ) (old new : Option (List ℕ)) (before now : ℕ) (status : Status) → HasWritten all old new before now status
    → (status ≡ Done) ⊎ (status ≡ WriteFault) ⊎ (status ≡ NoMemory)
only-over all old new before now Done written = inl refl
only-over all old new before now BadWords written = absurd written
only-over all old new before now (BadScenario fault) written = absurd written
only-over all old new before now ReadFault written = absurd written
only-over all old new before now WriteFault written = inr (inl refl)
only-over all old new before now NoMemory written = inr (inr refl)
only-over all old new before now (BadWire fault) written = absurd written
only-over all old new before now (BadFrame fault) written = absurd written
only-over all old new before now (Illegal line) written = absurd written
only-over all old new before now NoOutput written = absurd written
only-over all old new before now CheckTooLarge written = absurd written

-- a run of the scenario that an input reads as
runs-of : (print : Print) (settings : Settings) (input : List ℕ) (scenario : Scenario) (P : List ℕ → Type 0) → ReadsAsScenario input (Ok scenario) → RunsOver print scenario settings P → Runs print settings input P
runs-of print settings input scenario P reads run = record { scenario = scenario; journal = run.journal; traces = run.traces; reads = reads; legal = run.legal; output = run.output }

-- what a run answers is what is answered to its input
pub answers-over : (print : Print) (settings : Settings) (input : List ℕ) (scenario : Scenario) (old new : Option (List ℕ)) (before now : ℕ) (status : Status) → ReadsAsScenario input (Ok scenario)
    → (status ≡ Done → RunsOver print scenario settings (Appends old new)) → (status ≡ WriteFault → Rose before now)
    → (status ≡ WriteFault → RunsOver print scenario settings (AppendsPrefix old new)) → (status ≡ NoMemory → new ≡ old)
    → (status ≡ Done) ⊎ (status ≡ WriteFault) ⊎ (status ≡ NoMemory) → Answers (AtEnd print) settings input old new before now status
answers-over print settings input scenario old new before now Done reads done rose prefix memory only = runs-of print settings input scenario (Appends old new) reads (done refl)
answers-over print settings input scenario old new before now WriteFault reads done rose prefix memory only = (runs-of print settings input scenario (AppendsPrefix old new) reads (prefix refl), rose refl)
answers-over print settings input scenario old new before now NoMemory reads done rose prefix memory only = memory refl
answers-over print settings input scenario old new before now BadWords reads done rose prefix memory only = absurd (elim only [ inl e ↦ cc | inr other ↦ elim other [ inl e ↦ cc | inr f ↦ cc ] ])
answers-over print settings input scenario old new before now (BadScenario fault) reads done rose prefix memory only = absurd (elim only [ inl e ↦ cc | inr other ↦ elim other [ inl e ↦ cc | inr f ↦ cc ] ])
answers-over print settings input scenario old new before now ReadFault reads done rose prefix memory only = absurd (elim only [ inl e ↦ cc | inr other ↦ elim other [ inl e ↦ cc | inr f ↦ cc ] ])
answers-over print settings input scenario old new before now (BadWire fault) reads done rose prefix memory only = absurd (elim only [ inl e ↦ cc | inr other ↦ elim other [ inl e ↦ cc | inr f ↦ cc ] ])
answers-over print settings input scenario old new before now (BadFrame fault) reads done rose prefix memory only = absurd (elim only [ inl e ↦ cc | inr other ↦ elim other [ inl e ↦ cc | inr f ↦ cc ] ])
answers-over print settings input scenario old new before now (Illegal line) reads done rose prefix memory only = absurd (elim only [ inl e ↦ cc | inr other ↦ elim other [ inl e ↦ cc | inr f ↦ cc ] ])
answers-over print settings input scenario old new before now NoOutput reads done rose prefix memory only = absurd (elim only [ inl e ↦ cc | inr other ↦ elim other [ inl e ↦ cc | inr f ↦ cc ] ])
answers-over print settings input scenario old new before now CheckTooLarge reads done rose prefix memory only = absurd (elim only [ inl e ↦ cc | inr other ↦ elim other [ inl e ↦ cc | inr f ↦ cc ] ])

-- the same of a live run
pub live-answers-over : (settings : Settings) (input : List ℕ) (scenario : Scenario) (old new : Option (List ℕ)) (before now : ℕ) (status : Status) → ReadsAsScenario input (Ok scenario)
    → (status ≡ Done → LiveOver scenario settings (Appends old new)) → (status ≡ WriteFault → Rose before now)
    → (status ≡ WriteFault → LiveOver scenario settings (AppendsPrefix old new) ⊎ EarlyOver scenario settings (AppendsPrefix old new))
    → (status ≡ NoMemory → (new ≡ old) ⊎ SoFarOver scenario settings (Appends old new))
    → (status ≡ Done) ⊎ (status ≡ WriteFault) ⊎ (status ≡ NoMemory) → Answers Live settings input old new before now status
live-answers-over settings input scenario old new before now Done reads done rose prefix memory only = record { scenario = scenario; reads = reads; run = done refl }
live-answers-over settings input scenario old new before now WriteFault reads done rose prefix memory only = (
  elim (prefix refl) [ inl all ↦ inl (record { scenario = scenario; reads = reads; run = all }) | inr part ↦ inr (record { scenario = scenario; reads = reads; run = part }) ],
  rose refl,
)
live-answers-over settings input scenario old new before now NoMemory reads done rose prefix memory only =
    elim (memory refl) [ inl none ↦ inl none | inr part ↦ inr (record { scenario = scenario; reads = reads; run = part }) ]
live-answers-over settings input scenario old new before now BadWords reads done rose prefix memory only = absurd (elim only [ inl e ↦ cc | inr other ↦ elim other [ inl e ↦ cc | inr f ↦ cc ] ])
live-answers-over settings input scenario old new before now (BadScenario fault) reads done rose prefix memory only = absurd (elim only [ inl e ↦ cc | inr other ↦ elim other [ inl e ↦ cc | inr f ↦ cc ] ])
live-answers-over settings input scenario old new before now ReadFault reads done rose prefix memory only = absurd (elim only [ inl e ↦ cc | inr other ↦ elim other [ inl e ↦ cc | inr f ↦ cc ] ])
live-answers-over settings input scenario old new before now (BadWire fault) reads done rose prefix memory only = absurd (elim only [ inl e ↦ cc | inr other ↦ elim other [ inl e ↦ cc | inr f ↦ cc ] ])
live-answers-over settings input scenario old new before now (BadFrame fault) reads done rose prefix memory only = absurd (elim only [ inl e ↦ cc | inr other ↦ elim other [ inl e ↦ cc | inr f ↦ cc ] ])
live-answers-over settings input scenario old new before now (Illegal line) reads done rose prefix memory only = absurd (elim only [ inl e ↦ cc | inr other ↦ elim other [ inl e ↦ cc | inr f ↦ cc ] ])
live-answers-over settings input scenario old new before now NoOutput reads done rose prefix memory only = absurd (elim only [ inl e ↦ cc | inr other ↦ elim other [ inl e ↦ cc | inr f ↦ cc ] ])
live-answers-over settings input scenario old new before now CheckTooLarge reads done rose prefix memory only = absurd (elim only [ inl e ↦ cc | inr other ↦ elim other [ inl e ↦ cc | inr f ↦ cc ] ])

-- a reading of the same bytes
pub reads-same : (a b : List ℕ) (r s : Result Scenario ScenarioFault) → a ≡ b → r ≡ s → ReadsAsScenario a r → ReadsAsScenario b s
reads-same a b r s e f h = subst (λ (bytes : List ℕ). ReadsAsScenario bytes s) e (subst (λ (read : Result Scenario ScenarioFault). ReadsAsScenario a read) f h)

-- what reads as a scenario has no fault
one-reading : (input : List ℕ) (scenario : Scenario) (fault : ScenarioFault) → ReadsAsScenario input (Ok scenario) → ReadsAsScenario input (Err fault) → ⊥
one-reading input scenario fault h k =
    let both : Ok scenario ≡ Err fault = sym (reads-input input (Ok scenario) h) ∙ reads-input input (Err fault) k in
    cc

-- so a drill is done, its writing failed, or memory did not suffice
pub drill-answers : (print : Print) (settings : Settings) (input : List ℕ) (scenario : Scenario) (old new : Option (List ℕ)) (before now : ℕ) (status : Status) → ReadsAsScenario input (Ok scenario)
    → Answers (AtEnd print) settings input old new before now status → (status ≡ Done) ⊎ (status ≡ WriteFault) ⊎ (status ≡ NoMemory)
drill-answers print settings input scenario old new before now Done reads says = inl refl
drill-answers print settings input scenario old new before now WriteFault reads says = inr (inl refl)
drill-answers print settings input scenario old new before now NoMemory reads says = inr (inr refl)
drill-answers print settings input scenario old new before now (BadScenario fault) reads says = absurd (one-reading input scenario fault reads says.0)
drill-answers print settings input scenario old new before now other reads says = absurd says

-- without a fault it is done, or memory did not suffice
pub drill-completes : (status : Status) (Fault : Type 0) → (status ≡ Done) ⊎ (status ≡ WriteFault) ⊎ (status ≡ NoMemory) → (status ≡ WriteFault → Fault) → ¬ Fault
    → (status ≡ Done) ⊎ (status ≡ NoMemory)
drill-completes status Fault only rose none = elim only [
  | inl done ↦ inl done
  | inr other ↦ elim other [ inl fault ↦ absurd (none (rose fault)) | inr memory ↦ inr memory ]
]

-- a drill has no other answer than a run
pub own-drill : (status : Status) → (status ≡ Done) ⊎ (status ≡ WriteFault) ⊎ (status ≡ NoMemory) → IsOfRun status
own-drill status only = elim only [
  | inl e ↦ subst IsOfRun (sym e) tt
  | inr other ↦ elim other [ inl e ↦ subst IsOfRun (sym e) tt | inr e ↦ subst IsOfRun (sym e) tt ]
]

-- what ends a run is not that the words are no command
pub not-bad-words : (status : Status) → (status ≡ Done) ⊎ (status ≡ WriteFault) ⊎ (status ≡ NoMemory) → status ≡ BadWords → ⊥
not-bad-words status only e = elim only [ inl d ↦ cc | inr other ↦ elim other [ inl f ↦ cc | inr m ↦ cc ] ]

-- nor that there is no scenario
pub not-bad-scenario : (status : Status) (fault : ScenarioFault) → (status ≡ Done) ⊎ (status ≡ WriteFault) ⊎ (status ≡ NoMemory) → status ≡ BadScenario fault → ⊥
not-bad-scenario status fault only e = elim only [ inl d ↦ cc | inr other ↦ elim other [ inl f ↦ cc | inr m ↦ cc ] ]

-- nor that the source failed
pub not-read-fault : (status : Status) → (status ≡ Done) ⊎ (status ≡ WriteFault) ⊎ (status ≡ NoMemory) → status ≡ ReadFault → ⊥
not-read-fault status only e = elim only [ inl d ↦ cc | inr other ↦ elim other [ inl f ↦ cc | inr m ↦ cc ] ]

-- nor what a client of the wire sent
pub not-bad-wire : (status : Status) (fault : WireFault) → (status ≡ Done) ⊎ (status ≡ WriteFault) ⊎ (status ≡ NoMemory) → status ≡ BadWire fault → ⊥
not-bad-wire status fault only e = elim only [ inl d ↦ cc | inr other ↦ elim other [ inl f ↦ cc | inr m ↦ cc ] ]

-- nor what clients of seats sent
pub not-bad-frame : (status : Status) (fault : FrameFault) → (status ≡ Done) ⊎ (status ≡ WriteFault) ⊎ (status ≡ NoMemory) → status ≡ BadFrame fault → ⊥
not-bad-frame status fault only e = elim only [ inl d ↦ cc | inr other ↦ elim other [ inl f ↦ cc | inr m ↦ cc ] ]
