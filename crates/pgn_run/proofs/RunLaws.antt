-- From what was read and answered to what the program's call says.
use Rattle.std.proofs.Common.{◌≡◌, ℕ, ◌+◌, ◌<◌, ◌≤◌, ◌⊎◌, List, [], ◌∷◌, length, take, Option, Some, None, Result, Ok, Err, IfSome, OnSome, IsSomeAnd, sym, ap, ◌∙◌, refl, subst, inl, inr, arith, length-take, length-append, take_all}
use Rattle.std.proofs.lemmas.Bool.{cases_lt}
use Rattle.std.specs.Io.KnownBytes.{Appends, Consumes, IsAtEnd}
use Rattle.pgn_base.specs.declared.limits.TheConstants.{INPUT_BYTES_MAX}
use Rattle.pgn_base.specs.Outside.{AppendsPrefix, Rose}
use Rattle.pgn_language.specs.declared.scenario.Scenario.{Scenario}
use Rattle.pgn_language.specs.declared.scenario.ScenarioFault.{ScenarioFault}
use Rattle.pgn_language.specs.declared.scenario.ScenarioFault.TheVariants.{TooLarge}
use Rattle.pgn_language.specs.Inputs.{ReadsAsScenario, Large}
use Rattle.pgn_language.proofs.InputLaws.{reads-input}
use Rattle.pgn_run.specs.declared.status.Status.{Status}
use Rattle.pgn_run.specs.declared.status.Status.TheVariants.{Done, BadWords, BadScenario, ReadFault, WriteFault, NoMemory, BadWire, BadFrame, Illegal, NoOutput, CheckTooLarge}
use Rattle.pgn_run.specs.Run.{Answers, EarlyRuns, IsOfRun, IsShownSoFar, LiveRuns, Runs, Shown, ShownInPart, SoFarRuns}
use Rattle.pgn_run.specs.declared.print.Shows.{Shows}
use Rattle.pgn_run.specs.declared.print.Shows.TheVariants.{AtEnd, Live}
use Rattle.pgn_run.specs.declared.print.Print.{Print}
use Rattle.pgn_model.specs.Walk.{Settings}

-- a prefix that is no longer than a shorter limit is the whole
pub whole : (n : ℕ) (xs : List ℕ) → length (take (n + 1) xs) ≤ n → take (n + 1) xs ≡ xs
whole n xs h = take_all (n + 1) xs (omega (arith, length-take (n + 1) xs))

-- what was read is all of it, where it is within the limit
within-is-whole : (xs input : List ℕ) → input ≡ take 16777217 xs → length input ≤ INPUT_BYTES_MAX → input ≡ xs
within-is-whole xs input e h =
    let short : length (take 16777217 xs) ≤ 16777216 = omega (arith, ap length e) in
    e ∙ whole 16777216 xs short

-- an input has one reading
pub one-reading : (input : List ℕ) (a b : Result Scenario ScenarioFault) → ReadsAsScenario input a → ReadsAsScenario input b → a ≡ b
one-reading input a b h k = sym (reads-input input a h) ∙ reads-input input b k

-- an input has the reading of what was read of it
reads-whole : (xs input : List ℕ) (read : Result Scenario ScenarioFault) → input ≡ take 16777217 xs → ReadsAsScenario input read → ReadsAsScenario xs read
reads-whole xs input read e h = elim (cases_lt INPUT_BYTES_MAX (length input)) [
  | inl large ↦
      let past : INPUT_BYTES_MAX < length xs = omega (arith, large, ap length e, length-take 16777217 xs) in
      let same : Err TooLarge ≡ read = one-reading input (Err TooLarge) read (Large large) h in
      subst (λ (r : Result Scenario ScenarioFault). ReadsAsScenario xs r) same (Large past)
  | inr small ↦ subst (λ (bytes : List ℕ). ReadsAsScenario bytes read) (within-is-whole xs input e small) h
]

-- what reads as a scenario is within the limit
scenario-within : (input : List ℕ) (scenario : Scenario) → ReadsAsScenario input (Ok scenario) → length input ≤ INPUT_BYTES_MAX
scenario-within input scenario h = elim (cases_lt INPUT_BYTES_MAX (length input)) [
  | inl large ↦ let same : Err TooLarge ≡ Ok scenario = one-reading input (Err TooLarge) (Ok scenario) (Large large) h in absurd (cc)
  | inr small ↦ small
]

-- a scenario is no fault
no-fault : (input : List ℕ) (scenario : Scenario) (fault : ScenarioFault) → ReadsAsScenario input (Ok scenario) → ReadsAsScenario input (Err fault) → ⊥
no-fault input scenario fault h k = let same : Ok scenario ≡ Err fault = one-reading input (Ok scenario) (Err fault) h k in cc

-- an input has one fault
one-fault : (input : List ℕ) (a b : ScenarioFault) → ReadsAsScenario input (Err a) → ReadsAsScenario input (Err b) → a ≡ b
one-fault input a b h k = let same : Err a ≡ Err b = one-reading input (Err a) (Err b) h k in cc

-- an input's run is that of what was read of it
runs-whole : (print : Print) (settings : Settings) (xs input : List ℕ) (P : List ℕ → Type 0) → input ≡ take 16777217 xs → Runs print settings input P → Runs print settings xs P
runs-whole print settings xs input P e h = record { scenario = h.scenario; journal = h.journal; traces = h.traces; reads = reads-whole xs input (Ok h.scenario) e h.reads; legal = h.legal; output = h.output }

live-whole : (settings : Settings) (xs input : List ℕ) (P : List ℕ → Type 0) → input ≡ take 16777217 xs → LiveRuns settings input P → LiveRuns settings xs P
live-whole settings xs input P e h = record { scenario = h.scenario; reads = reads-whole xs input (Ok h.scenario) e h.reads; run = h.run }

early-whole : (settings : Settings) (xs input : List ℕ) (P : List ℕ → Type 0) → input ≡ take 16777217 xs → EarlyRuns settings input P → EarlyRuns settings xs P
early-whole settings xs input P e h = record { scenario = h.scenario; reads = reads-whole xs input (Ok h.scenario) e h.reads; run = h.run }

so_far-whole : (settings : Settings) (xs input : List ℕ) (P : List ℕ → Type 0) → input ≡ take 16777217 xs → SoFarRuns settings input P → SoFarRuns settings xs P
so_far-whole settings xs input P e h = record { scenario = h.scenario; reads = reads-whole xs input (Ok h.scenario) e h.reads; run = h.run }

shown-whole : (shows : Shows) (settings : Settings) (xs input : List ℕ) (P : List ℕ → Type 0) → input ≡ take 16777217 xs → Shown shows settings input P → Shown shows settings xs P
shown-whole (AtEnd print) settings xs input P e h = runs-whole print settings xs input P e h
shown-whole Live settings xs input P e h = live-whole settings xs input P e h

part-whole : (shows : Shows) (settings : Settings) (xs input : List ℕ) (P : List ℕ → Type 0) → input ≡ take 16777217 xs → ShownInPart shows settings input P → ShownInPart shows settings xs P
part-whole (AtEnd print) settings xs input P e h = runs-whole print settings xs input P e h
part-whole Live settings xs input P e h = elim h [ inl all ↦ inl (live-whole settings xs input P e all) | inr part ↦ inr (early-whole settings xs input P e part) ]

so_far-shown-whole : (shows : Shows) (settings : Settings) (xs input : List ℕ) (old new : Option (List ℕ)) → input ≡ take 16777217 xs → IsShownSoFar shows settings input old new → IsShownSoFar shows settings xs old new
so_far-shown-whole (AtEnd print) settings xs input old new e h = h
so_far-shown-whole Live settings xs input old new e h = elim h [ inl none ↦ inl none | inr part ↦ inr (so_far-whole settings xs input (Appends old new) e part) ]

-- what is shown is of an input that reads as a scenario
abbrev ReadsAsSome : List ℕ → Type 0
ReadsAsSome input = (scenario : Scenario) × ReadsAsScenario input (Ok scenario)

shown-reads : (shows : Shows) (settings : Settings) (input : List ℕ) (P : List ℕ → Type 0) → Shown shows settings input P → ReadsAsSome input
shown-reads (AtEnd print) settings input P h = (h.scenario, h.reads)
shown-reads Live settings input P h = (h.scenario, h.reads)

part-reads : (shows : Shows) (settings : Settings) (input : List ℕ) (P : List ℕ → Type 0) → ShownInPart shows settings input P → ReadsAsSome input
part-reads (AtEnd print) settings input P h = (h.scenario, h.reads)
part-reads Live settings input P h = elim h [ inl all ↦ (all.scenario, all.reads) | inr part ↦ (part.scenario, part.reads) ]

-- what follows of known bytes
pub if-some : (known : Option (List ℕ)) (A B : List ℕ → Type 0) → ((xs : List ℕ) → A xs → B xs) → IfSome known A → IfSome known B
if-some None A B f h = h
if-some (Some xs) A B f h = f xs h

module _ (shows : Shows) (settings : Settings) (left : Option (List ℕ)) (input : List ℕ) (old new : Option (List ℕ)) (before now : ℕ) (status : Status)
    (bytes : IfSome left (λ xs. input ≡ take 16777217 xs)) (answers : Answers shows settings input old new before now status) where
  -- the answer where it is known
  answered : (other : Status) → status ≡ other → Answers shows settings input old new before now other
  answered other e = subst (λ (s : Status). Answers shows settings input old new before now s) e answers

  -- a run that is done is one of what was left, and all of it is shown
  pub done-runs : status ≡ Done → IfSome left (λ xs. Shown shows settings xs (Appends old new))
  done-runs e = if-some left (λ xs. input ≡ take 16777217 xs) (λ xs. Shown shows settings xs (Appends old new)) (λ xs b. shown-whole shows settings xs input (Appends old new) b (answered Done e)) bytes

  -- after a write fault a prefix of what is shown of it stands written
  pub write-fault-runs : status ≡ WriteFault → IfSome left (λ xs. ShownInPart shows settings xs (AppendsPrefix old new))
  write-fault-runs e = if-some left (λ xs. input ≡ take 16777217 xs) (λ xs. ShownInPart shows settings xs (AppendsPrefix old new)) (λ xs b. part-whole shows settings xs input (AppendsPrefix old new) b (answered WriteFault e).0) bytes

  -- where memory did not suffice for a run that is shown at its end nothing was written
  pub memory-nothing : (print : Print) → shows ≡ AtEnd print → status ≡ NoMemory → new ≡ old
  memory-nothing print once e = let known : IsShownSoFar (AtEnd print) settings input old new = subst (λ (s : Shows). IsShownSoFar s settings input old new) once (answered NoMemory e) in known

  -- and of a live one at most what comes first
  pub memory-shows : status ≡ NoMemory → (new ≡ old) ⊎ IfSome left (λ xs. IsShownSoFar shows settings xs old new)
  memory-shows e = inr (if-some left (λ xs. input ≡ take 16777217 xs) (λ xs. IsShownSoFar shows settings xs old new) (λ xs b. so_far-shown-whole shows settings xs input old new b (answered NoMemory e)) bytes)

  -- a scenario at fault is what was left
  pub bad-scenario-reads : (fault : ScenarioFault) → status ≡ BadScenario fault → IfSome left (λ xs. ReadsAsScenario xs (Err fault))
  bad-scenario-reads fault e = if-some left (λ xs. input ≡ take 16777217 xs) (λ xs. ReadsAsScenario xs (Err fault)) (λ xs b. reads-whole xs input (Err fault) b (answered (BadScenario fault) e).0) bytes

  -- an answer to an input is an outcome that `run` may have
  pub own-run : IsOfRun status
  own-run = go status answers
    where
      go : (s : Status) → Answers shows settings input old new before now s → IsOfRun s
      go Done h = tt
      go BadWords h = h
      go (BadScenario fault) h = tt
      go ReadFault h = tt
      go WriteFault h = tt
      go NoMemory h = tt
      go (BadWire fault) h = h
      go (BadFrame fault) h = h
      go (Illegal line) h = h
      go NoOutput h = h
      go CheckTooLarge h = h

  -- where a run is done the source is at its end
  pub done-at-end : (rest : Option (List ℕ)) → Consumes left rest input → status ≡ Done → OnSome left (IsAtEnd rest)
  done-at-end rest consumed e = with left rest bytes consumed
    where
      with : (o r : Option (List ℕ)) → IfSome o (λ xs. input ≡ take 16777217 xs) → Consumes o r input → OnSome o (IsAtEnd r)
      with None r b h = b
      with (Some xs) None b h = absurd h
      with (Some xs) (Some ys) b h =
          let run = shown-reads shows settings input (Appends old new) (answered Done e) in
          let all : input ≡ xs = within-is-whole xs input b (scenario-within input run.0 run.1) in
          let none : length ys ≡ 0 = omega (arith, ap length all, ap length h, length-append input ys) in
          empty ys none
        where
          empty : (zs : List ℕ) → length zs ≡ 0 → zs ≡ []
          empty [] n = refl
          empty (z ∷ zs) n = absurd (omega arith)

-- what comes of an input that reads as a scenario, where no write failed
pub reads-done : (shows : Shows) (settings : Settings) (left : Option (List ℕ)) (input : List ℕ) (old new : Option (List ℕ)) (before now : ℕ) (status : Status) (scenario : Scenario)
    → IfSome left (λ xs. input ≡ take 16777217 xs) → Answers shows settings input old new before now status
    → IsSomeAnd left (λ xs. ReadsAsScenario xs (Ok scenario)) → ¬ Rose before now → (status ≡ Done) ⊎ (status ≡ NoMemory)
reads-done shows settings None input old new before now status scenario bytes answers reads rose = absurd reads
reads-done shows settings (Some xs) input old new before now Done scenario bytes answers reads rose = inl refl
reads-done shows settings (Some xs) input old new before now BadWords scenario bytes answers reads rose = absurd answers
reads-done shows settings (Some xs) input old new before now (BadScenario fault) scenario bytes answers reads rose = absurd (no-fault xs scenario fault reads (reads-whole xs input (Err fault) bytes answers.0))
reads-done shows settings (Some xs) input old new before now ReadFault scenario bytes answers reads rose = absurd answers
reads-done shows settings (Some xs) input old new before now WriteFault scenario bytes answers reads rose = absurd (rose answers.1)
reads-done shows settings (Some xs) input old new before now NoMemory scenario bytes answers reads rose = inr refl
reads-done shows settings (Some xs) input old new before now (BadWire fault) scenario bytes answers reads rose = absurd answers
reads-done shows settings (Some xs) input old new before now (BadFrame fault) scenario bytes answers reads rose = absurd answers
reads-done shows settings (Some xs) input old new before now (Illegal line) scenario bytes answers reads rose = absurd answers
reads-done shows settings (Some xs) input old new before now NoOutput scenario bytes answers reads rose = absurd answers
reads-done shows settings (Some xs) input old new before now CheckTooLarge scenario bytes answers reads rose = absurd answers

-- what comes of an input with a fault
pub faulty-refused : (shows : Shows) (settings : Settings) (left : Option (List ℕ)) (input : List ℕ) (old new : Option (List ℕ)) (before now : ℕ) (status : Status) (fault : ScenarioFault)
    → IfSome left (λ xs. input ≡ take 16777217 xs) → Answers shows settings input old new before now status
    → IsSomeAnd left (λ xs. ReadsAsScenario xs (Err fault)) → (status ≡ BadScenario fault) ⊎ (status ≡ NoMemory)
faulty-refused shows settings None input old new before now status fault bytes answers reads = absurd reads
faulty-refused shows settings (Some xs) input old new before now Done fault bytes answers reads =
    let run = shown-reads shows settings input (Appends old new) answers in
    absurd (no-fault xs run.0 fault (reads-whole xs input (Ok run.0) bytes run.1) reads)
faulty-refused shows settings (Some xs) input old new before now BadWords fault bytes answers reads = absurd answers
faulty-refused shows settings (Some xs) input old new before now (BadScenario other) fault bytes answers reads = inl (ap BadScenario (one-fault xs other fault (reads-whole xs input (Err other) bytes answers.0) reads))
faulty-refused shows settings (Some xs) input old new before now ReadFault fault bytes answers reads = absurd answers
faulty-refused shows settings (Some xs) input old new before now WriteFault fault bytes answers reads =
    let run = part-reads shows settings input (AppendsPrefix old new) answers.0 in
    absurd (no-fault xs run.0 fault (reads-whole xs input (Ok run.0) bytes run.1) reads)
faulty-refused shows settings (Some xs) input old new before now NoMemory fault bytes answers reads = inr refl
faulty-refused shows settings (Some xs) input old new before now (BadWire other) fault bytes answers reads = absurd answers
faulty-refused shows settings (Some xs) input old new before now (BadFrame other) fault bytes answers reads = absurd answers
faulty-refused shows settings (Some xs) input old new before now (Illegal line) fault bytes answers reads = absurd answers
faulty-refused shows settings (Some xs) input old new before now NoOutput fault bytes answers reads = absurd answers
faulty-refused shows settings (Some xs) input old new before now CheckTooLarge fault bytes answers reads = absurd answers

-- what a live run has shown so far
pub so_far-known : (left : Option (List ℕ)) (shows : Shows) (settings : Settings) (old new : Option (List ℕ)) → shows ≡ Live → IfSome left (λ input. IsShownSoFar shows settings input old new)
    → (new ≡ old) ⊎ IfSome left (λ input. SoFarRuns settings input (Appends old new))
so_far-known None shows settings old new e h = inr tt
so_far-known (Some xs) shows settings old new e h =
    let known : (new ≡ old) ⊎ SoFarRuns settings xs (Appends old new) = subst (λ (s : Shows). IsShownSoFar s settings xs old new) e h in
    known
