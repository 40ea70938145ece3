-- From a verdict to what `check` answers, and from that to what the program's call says.
use Rattle.std.proofs.Common.{◌≡◌, ℕ, ◌+◌, ◌≤◌, ◌⊎◌, List, length, take, Option, None, Some, Ok, Err, IfSome, IsSomeAnd, sym, ap, ◌∙◌, refl, subst, inl, inr, arith, length-take}
use Rattle.std.specs.Io.KnownBytes.{Appends}
use Rattle.pgn_base.specs.Outside.{AppendsPrefix, Rose}
use Rattle.pgn_language.specs.declared.scenario.Scenario.{Scenario}
use Rattle.pgn_language.specs.declared.scenario.ScenarioFault.{ScenarioFault}
use Rattle.pgn_language.specs.Inputs.{ReadsAsScenario}
use Rattle.pgn_model.specs.Walk.{Settings}
use Rattle.pgn_check.specs.declared.check.Verdict.{Verdict}
use Rattle.pgn_check.specs.declared.check.Verdict.TheVariants as verdict
use Rattle.pgn_check.specs.Verdicts.{Judges}
use Rattle.pgn_run.specs.declared.checking.TheConstants.{CHECK_BYTES_MAX}
use Rattle.pgn_run.specs.declared.status.Status.{Status}
use Rattle.pgn_run.specs.declared.status.Status.TheVariants.{Done, BadWords, BadScenario, ReadFault, WriteFault, NoMemory, BadWire, BadFrame, Illegal, NoOutput, CheckTooLarge}
use Rattle.pgn_run.specs.Checking.{AnswersCheck, HasFault, HasNoOutput, HasTold, IsJudged, IsOfCheck, IsTooLarge, IsUntold, IsVerdictOn, Parts, Tells, parts_of, status_of, verdict_text}
use Rattle.pgn_run.proofs.RunLaws.{if-some, one-reading, whole}

-- One input has one answer.

one-line : (n m : ℕ) → n ≤ m → m ≤ n → n ≡ m
one-line n m h k = omega (arith, h, k)

-- a text has one verdict
one-verdict : (scenario : Scenario) (settings : Settings) (out : List ℕ) (a b : Verdict) → Judges scenario settings out a → Judges scenario settings out b → a ≡ b
one-verdict scenario settings out verdict.Legal verdict.Legal h k = refl
one-verdict scenario settings out verdict.Legal (verdict.Illegal m) h k = absurd (k.not_legal h)
one-verdict scenario settings out (verdict.Illegal n) verdict.Legal h k = absurd (h.not_legal k)
one-verdict scenario settings out (verdict.Illegal n) (verdict.Illegal m) h k =
    ap verdict.Illegal (one-line n m (h.least.least m k.least.blamed) (k.least.least n h.least.blamed))

one-parts : (input : List ℕ) (a b : Parts) → parts_of input ≡ Some a → parts_of input ≡ Some b → a ≡ b
one-parts input a b e f = let same : Some a ≡ Some b = sym e ∙ f in cc

no-parts : (input : List ℕ) (a : Parts) → parts_of input ≡ Some a → parts_of input ≡ None → ⊥
no-parts input a e f = let same : Some a ≡ None = sym e ∙ f in cc

judged-once : (settings : Settings) (input : List ℕ) (a b : Verdict) → IsJudged settings input a → IsJudged settings input b → a ≡ b
judged-once settings input a b h k =
    let parts : k.parts ≡ h.parts = one-parts input k.parts h.parts k.parted h.parted in
    let reads : ReadsAsScenario h.parts.scenario (Ok k.scenario) = subst (λ (p : Parts). ReadsAsScenario p.scenario (Ok k.scenario)) parts k.reads in
    let readings : Ok k.scenario ≡ Ok h.scenario = one-reading h.parts.scenario (Ok k.scenario) (Ok h.scenario) reads h.reads in
    let scenarios : k.scenario ≡ h.scenario = cc in
    let judged : Judges k.scenario settings h.parts.output b = subst (λ (p : Parts). Judges k.scenario settings p.output b) parts k.judged in
    one-verdict h.scenario settings h.parts.output a b h.judged (subst (λ (s : Scenario). Judges s settings h.parts.output b) scenarios judged)

fault-once : (input : List ℕ) (a b : ScenarioFault) → HasFault input a → HasFault input b → a ≡ b
fault-once input a b h k =
    let parts : k.parts ≡ h.parts = one-parts input k.parts h.parts k.parted h.parted in
    let reads : ReadsAsScenario h.parts.scenario (Err b) = subst (λ (p : Parts). ReadsAsScenario p.scenario (Err b)) parts k.reads in
    let same : Err a ≡ Err b = one-reading h.parts.scenario (Err a) (Err b) h.reads reads in
    cc

judged-no-fault : (settings : Settings) (input : List ℕ) (given : Verdict) (fault : ScenarioFault) → IsJudged settings input given → HasFault input fault → ⊥
judged-no-fault settings input given fault h k =
    let parts : k.parts ≡ h.parts = one-parts input k.parts h.parts k.parted h.parted in
    let reads : ReadsAsScenario h.parts.scenario (Err fault) = subst (λ (p : Parts). ReadsAsScenario p.scenario (Err fault)) parts k.reads in
    let same : Ok h.scenario ≡ Err fault = one-reading h.parts.scenario (Ok h.scenario) (Err fault) h.reads reads in
    cc

-- From the verdict to the answer.

-- a verdict on the two parts of an input that is not too large is one on the input
pub judged-in : (settings : Settings) (input : List ℕ) (parts : Parts) (given : Verdict) → length input ≤ CHECK_BYTES_MAX → parts_of input ≡ Some parts
    → IsVerdictOn settings parts.scenario parts.output given → IsJudged settings input given
judged-in settings input parts given fits parted h = record { parts = parts; scenario = h.scenario; fits = fits; parted = parted; reads = h.reads; judged = h.judged }

-- a verdict on the input that was told is an answer to it
pub told-answers : (settings : Settings) (input : List ℕ) (given : Verdict) (old new : Option (List ℕ)) (before now : ℕ) (status : Status) → IsJudged settings input given
    → HasTold given old new before now status → AnswersCheck settings input old new before now status
told-answers settings input verdict.Legal old new before now Done judged told = (judged, told.1)
told-answers settings input verdict.Legal old new before now BadWords judged told = absurd (let bad = told.0 in cc)
told-answers settings input verdict.Legal old new before now (BadScenario fault) judged told = absurd (let bad = told.0 in cc)
told-answers settings input verdict.Legal old new before now ReadFault judged told = absurd (let bad = told.0 in cc)
told-answers settings input verdict.Legal old new before now WriteFault judged told = (record { given = verdict.Legal; judged = judged; output = told.0 }, told.1)
told-answers settings input verdict.Legal old new before now NoMemory judged told = absurd (let bad = told.0 in cc)
told-answers settings input verdict.Legal old new before now (BadWire fault) judged told = absurd (let bad = told.0 in cc)
told-answers settings input verdict.Legal old new before now (BadFrame fault) judged told = absurd (let bad = told.0 in cc)
told-answers settings input verdict.Legal old new before now (Illegal line) judged told = absurd (let bad = told.0 in cc)
told-answers settings input verdict.Legal old new before now NoOutput judged told = absurd (let bad = told.0 in cc)
told-answers settings input verdict.Legal old new before now CheckTooLarge judged told = absurd (let bad = told.0 in cc)
told-answers settings input (verdict.Illegal n) old new before now Done judged told = absurd (let bad = told.0 in cc)
told-answers settings input (verdict.Illegal n) old new before now BadWords judged told = absurd (let bad = told.0 in cc)
told-answers settings input (verdict.Illegal n) old new before now (BadScenario fault) judged told = absurd (let bad = told.0 in cc)
told-answers settings input (verdict.Illegal n) old new before now ReadFault judged told = absurd (let bad = told.0 in cc)
told-answers settings input (verdict.Illegal n) old new before now WriteFault judged told = (record { given = verdict.Illegal n; judged = judged; output = told.0 }, told.1)
told-answers settings input (verdict.Illegal n) old new before now NoMemory judged told = absurd (let bad = told.0 in cc)
told-answers settings input (verdict.Illegal n) old new before now (BadWire fault) judged told = absurd (let bad = told.0 in cc)
told-answers settings input (verdict.Illegal n) old new before now (BadFrame fault) judged told = absurd (let bad = told.0 in cc)
told-answers settings input (verdict.Illegal n) old new before now (Illegal line) judged told =
    let same : n ≡ line = let is = told.0 in cc in
    (subst (λ (l : ℕ). IsJudged settings input (verdict.Illegal l)) same judged, subst (λ (l : ℕ). Appends old new (verdict_text (verdict.Illegal l))) same told.1)
told-answers settings input (verdict.Illegal n) old new before now NoOutput judged told = absurd (let bad = told.0 in cc)
told-answers settings input (verdict.Illegal n) old new before now CheckTooLarge judged told = absurd (let bad = told.0 in cc)

-- From what was read to what is left.

large-whole : (xs input : List ℕ) → input ≡ take (CHECK_BYTES_MAX + 1) xs → IsTooLarge input → IsTooLarge xs
large-whole xs input e large = omega (arith, large, ap length e, length-take (CHECK_BYTES_MAX + 1) xs)

within : (xs input : List ℕ) → input ≡ take (CHECK_BYTES_MAX + 1) xs → length input ≤ CHECK_BYTES_MAX → input ≡ xs
within xs input e fits = e ∙ whole CHECK_BYTES_MAX xs (omega (arith, fits, ap length e))

judged-whole : (settings : Settings) (xs input : List ℕ) (given : Verdict) → input ≡ take (CHECK_BYTES_MAX + 1) xs → IsJudged settings input given → IsJudged settings xs given
judged-whole settings xs input given e h = subst (λ (bytes : List ℕ). IsJudged settings bytes given) (within xs input e h.fits) h

answers-whole : (settings : Settings) (xs input : List ℕ) (old new : Option (List ℕ)) (before now : ℕ) (status : Status) → input ≡ take (CHECK_BYTES_MAX + 1) xs
    → AnswersCheck settings input old new before now status → AnswersCheck settings xs old new before now status
answers-whole settings xs input old new before now Done e h = (judged-whole settings xs input verdict.Legal e h.0, h.1)
answers-whole settings xs input old new before now BadWords e h = absurd h
answers-whole settings xs input old new before now (BadScenario fault) e h = (subst (λ (bytes : List ℕ). HasFault bytes fault) (within xs input e h.0.fits) h.0, h.1)
answers-whole settings xs input old new before now ReadFault e h = h
answers-whole settings xs input old new before now WriteFault e h = (record { given = h.0.given; judged = judged-whole settings xs input h.0.given e h.0.judged; output = h.0.output }, h.1)
answers-whole settings xs input old new before now NoMemory e h = h
answers-whole settings xs input old new before now (BadWire fault) e h = absurd h
answers-whole settings xs input old new before now (BadFrame fault) e h = absurd h
answers-whole settings xs input old new before now (Illegal line) e h = (judged-whole settings xs input (verdict.Illegal line) e h.0, h.1)
answers-whole settings xs input old new before now NoOutput e h = (subst (λ (bytes : List ℕ). HasNoOutput bytes) (within xs input e h.0.fits) h.0, h.1)
answers-whole settings xs input old new before now CheckTooLarge e h = (large-whole xs input e h.0, h.1)

-- an answer to what was read, which is all that was left or its first bytes, is one to what was left
pub answers-left : (settings : Settings) (left : Option (List ℕ)) (input : List ℕ) (old new : Option (List ℕ)) (before now : ℕ) (status : Status)
    → IfSome left (λ xs. input ≡ take (CHECK_BYTES_MAX + 1) xs) → AnswersCheck settings input old new before now status → IfSome left (λ xs. AnswersCheck settings xs old new before now status)
answers-left settings left input old new before now status bytes h =
    if-some left (λ xs. input ≡ take (CHECK_BYTES_MAX + 1) xs) (λ xs. AnswersCheck settings xs old new before now status)
    (λ xs e. answers-whole settings xs input old new before now status e h) bytes

-- what was left alone as it was
pub same-known : (settings : Settings) (left old new : Option (List ℕ)) (before now : ℕ) (status : Status) → (status ≡ ReadFault) ⊎ (status ≡ NoMemory) → new ≡ old
    → IfSome left (λ xs. AnswersCheck settings xs old new before now status)
same-known settings None old new before now status only same = tt
same-known settings (Some xs) old new before now status only same = elim only [
  | inl e ↦ subst (λ (s : Status). AnswersCheck settings xs old new before now s) (sym e) same
  | inr e ↦ subst (λ (s : Status). AnswersCheck settings xs old new before now s) (sym e) same
]

-- an answer to what is checked is an outcome that `check` may have
pub own-answer : (settings : Settings) (input : List ℕ) (old new : Option (List ℕ)) (before now : ℕ) (status : Status) → AnswersCheck settings input old new before now status → IsOfCheck status
own-answer settings input old new before now Done h = tt
own-answer settings input old new before now BadWords h = h
own-answer settings input old new before now (BadScenario fault) h = tt
own-answer settings input old new before now ReadFault h = tt
own-answer settings input old new before now WriteFault h = tt
own-answer settings input old new before now NoMemory h = tt
own-answer settings input old new before now (BadWire fault) h = h
own-answer settings input old new before now (BadFrame fault) h = h
own-answer settings input old new before now (Illegal line) h = tt
own-answer settings input old new before now NoOutput h = tt
own-answer settings input old new before now CheckTooLarge h = tt

-- where nothing is told nothing was written
pub untold-same : (settings : Settings) (input : List ℕ) (old new : Option (List ℕ)) (before now : ℕ) (status : Status) → AnswersCheck settings input old new before now status → IsUntold status → new ≡ old
untold-same settings input old new before now Done h untold = absurd untold
untold-same settings input old new before now BadWords h untold = absurd h
untold-same settings input old new before now (BadScenario fault) h untold = h.1
untold-same settings input old new before now ReadFault h untold = h
untold-same settings input old new before now WriteFault h untold = absurd untold
untold-same settings input old new before now NoMemory h untold = h
untold-same settings input old new before now (BadWire fault) h untold = absurd h
untold-same settings input old new before now (BadFrame fault) h untold = absurd h
untold-same settings input old new before now (Illegal line) h untold = absurd untold
untold-same settings input old new before now NoOutput h untold = h.1
untold-same settings input old new before now CheckTooLarge h untold = h.1

-- a write fault has raised the sink's count
pub fault-rose : (settings : Settings) (input : List ℕ) (old new : Option (List ℕ)) (before now : ℕ) (status : Status) → AnswersCheck settings input old new before now status → status ≡ WriteFault → Rose before now
fault-rose settings input old new before now status h e =
    let known : AnswersCheck settings input old new before now WriteFault = subst (λ (s : Status). AnswersCheck settings input old new before now s) e h in
    known.1

-- From the answer to what the call says.

first : (B : Type 0) (left : Option (List ℕ)) (A : List ℕ → Type 0) → IfSome left (λ xs. A xs × B) → IfSome left A
first B None A h = tt
first B (Some xs) A h = h.0

module _ (settings : Settings) (left old new : Option (List ℕ)) (before now : ℕ) (status : Status) (answers : IfSome left (λ xs. AnswersCheck settings xs old new before now status)) where
  -- the answer where it is known
  pub answered-check : (other : Status) → status ≡ other → IfSome left (λ xs. AnswersCheck settings xs old new before now other)
  answered-check other e = subst (λ (s : Status). IfSome left (λ xs. AnswersCheck settings xs old new before now s)) e answers

  -- after a write fault a prefix of what is told stands written
  pub check-part : status ≡ WriteFault → IfSome left (λ xs. Tells settings xs (AppendsPrefix old new))
  check-part e = first _ left (λ xs. Tells settings xs (AppendsPrefix old new)) (answered-check WriteFault e)

  -- a scenario at fault is the one in what was left
  pub check-fault : (fault : ScenarioFault) → status ≡ BadScenario fault → IfSome left (λ xs. HasFault xs fault)
  check-fault fault e = first _ left (λ xs. HasFault xs fault) (answered-check (BadScenario fault) e)

  -- where no output was found there is none in what was left
  pub check-none : status ≡ NoOutput → IfSome left HasNoOutput
  check-none e = first _ left HasNoOutput (answered-check NoOutput e)

  -- an input that was too large is what was left
  pub check-large : status ≡ CheckTooLarge → IfSome left IsTooLarge
  check-large e = first _ left IsTooLarge (answered-check CheckTooLarge e)

-- what comes of an input on which this is the verdict
pub verdict-due : (settings : Settings) (left old new : Option (List ℕ)) (before now : ℕ) (status : Status) (given : Verdict) (Reads : Type 0)
    → IfSome left (λ xs. AnswersCheck settings xs old new before now status) → IsSomeAnd left (λ xs. IsJudged settings xs given)
    → (status ≡ ReadFault → Reads) → ¬ Reads → ¬ Rose before now → (status ≡ status_of given) ⊎ (status ≡ NoMemory)
verdict-due settings None old new before now status given Reads answers judged read no_read no_write = absurd judged
verdict-due settings (Some xs) old new before now Done given Reads answers judged read no_read no_write =
    inl (ap status_of (judged-once settings xs verdict.Legal given answers.0 judged))
verdict-due settings (Some xs) old new before now BadWords given Reads answers judged read no_read no_write = absurd answers
verdict-due settings (Some xs) old new before now (BadScenario fault) given Reads answers judged read no_read no_write = absurd (judged-no-fault settings xs given fault judged answers.0)
verdict-due settings (Some xs) old new before now ReadFault given Reads answers judged read no_read no_write = absurd (no_read (read refl))
verdict-due settings (Some xs) old new before now WriteFault given Reads answers judged read no_read no_write = absurd (no_write answers.1)
verdict-due settings (Some xs) old new before now NoMemory given Reads answers judged read no_read no_write = inr refl
verdict-due settings (Some xs) old new before now (BadWire fault) given Reads answers judged read no_read no_write = absurd answers
verdict-due settings (Some xs) old new before now (BadFrame fault) given Reads answers judged read no_read no_write = absurd answers
verdict-due settings (Some xs) old new before now (Illegal line) given Reads answers judged read no_read no_write =
    inl (ap status_of (judged-once settings xs (verdict.Illegal line) given answers.0 judged))
verdict-due settings (Some xs) old new before now NoOutput given Reads answers judged read no_read no_write = absurd (no-parts xs judged.parts judged.parted answers.0.none)
verdict-due settings (Some xs) old new before now CheckTooLarge given Reads answers judged read no_read no_write = absurd (omega (arith, judged.fits, answers.0))

-- of one whose scenario has this fault
pub fault-due : (settings : Settings) (left old new : Option (List ℕ)) (before now : ℕ) (status : Status) (fault : ScenarioFault) (Reads : Type 0)
    → IfSome left (λ xs. AnswersCheck settings xs old new before now status) → IsSomeAnd left (λ xs. HasFault xs fault)
    → (status ≡ ReadFault → Reads) → ¬ Reads → (status ≡ BadScenario fault) ⊎ (status ≡ NoMemory)
fault-due settings None old new before now status fault Reads answers faulty read no_read = absurd faulty
fault-due settings (Some xs) old new before now Done fault Reads answers faulty read no_read = absurd (judged-no-fault settings xs verdict.Legal fault answers.0 faulty)
fault-due settings (Some xs) old new before now BadWords fault Reads answers faulty read no_read = absurd answers
fault-due settings (Some xs) old new before now (BadScenario other) fault Reads answers faulty read no_read = inl (ap BadScenario (fault-once xs other fault answers.0 faulty))
fault-due settings (Some xs) old new before now ReadFault fault Reads answers faulty read no_read = absurd (no_read (read refl))
fault-due settings (Some xs) old new before now WriteFault fault Reads answers faulty read no_read = absurd (judged-no-fault settings xs answers.0.given fault answers.0.judged faulty)
fault-due settings (Some xs) old new before now NoMemory fault Reads answers faulty read no_read = inr refl
fault-due settings (Some xs) old new before now (BadWire other) fault Reads answers faulty read no_read = absurd answers
fault-due settings (Some xs) old new before now (BadFrame other) fault Reads answers faulty read no_read = absurd answers
fault-due settings (Some xs) old new before now (Illegal line) fault Reads answers faulty read no_read = absurd (judged-no-fault settings xs (verdict.Illegal line) fault answers.0 faulty)
fault-due settings (Some xs) old new before now NoOutput fault Reads answers faulty read no_read = absurd (no-parts xs faulty.parts faulty.parted answers.0.none)
fault-due settings (Some xs) old new before now CheckTooLarge fault Reads answers faulty read no_read = absurd (omega (arith, faulty.fits, answers.0))

-- of one without a line `\output`
pub none-due : (settings : Settings) (left old new : Option (List ℕ)) (before now : ℕ) (status : Status) (Reads : Type 0)
    → IfSome left (λ xs. AnswersCheck settings xs old new before now status) → IsSomeAnd left HasNoOutput
    → (status ≡ ReadFault → Reads) → ¬ Reads → (status ≡ NoOutput) ⊎ (status ≡ NoMemory)
none-due settings None old new before now status Reads answers none read no_read = absurd none
none-due settings (Some xs) old new before now Done Reads answers none read no_read = absurd (no-parts xs answers.0.parts answers.0.parted none.none)
none-due settings (Some xs) old new before now BadWords Reads answers none read no_read = absurd answers
none-due settings (Some xs) old new before now (BadScenario fault) Reads answers none read no_read = absurd (no-parts xs answers.0.parts answers.0.parted none.none)
none-due settings (Some xs) old new before now ReadFault Reads answers none read no_read = absurd (no_read (read refl))
none-due settings (Some xs) old new before now WriteFault Reads answers none read no_read = absurd (no-parts xs answers.0.judged.parts answers.0.judged.parted none.none)
none-due settings (Some xs) old new before now NoMemory Reads answers none read no_read = inr refl
none-due settings (Some xs) old new before now (BadWire other) Reads answers none read no_read = absurd answers
none-due settings (Some xs) old new before now (BadFrame other) Reads answers none read no_read = absurd answers
none-due settings (Some xs) old new before now (Illegal line) Reads answers none read no_read = absurd (no-parts xs answers.0.parts answers.0.parted none.none)
none-due settings (Some xs) old new before now NoOutput Reads answers none read no_read = inl refl
none-due settings (Some xs) old new before now CheckTooLarge Reads answers none read no_read = absurd (omega (arith, none.fits, answers.0))

-- of one that is too large
pub large-due : (settings : Settings) (left old new : Option (List ℕ)) (before now : ℕ) (status : Status) (Reads : Type 0)
    → IfSome left (λ xs. AnswersCheck settings xs old new before now status) → IsSomeAnd left IsTooLarge
    → (status ≡ ReadFault → Reads) → ¬ Reads → (status ≡ CheckTooLarge) ⊎ (status ≡ NoMemory)
large-due settings None old new before now status Reads answers large read no_read = absurd large
large-due settings (Some xs) old new before now Done Reads answers large read no_read = absurd (omega (arith, answers.0.fits, large))
large-due settings (Some xs) old new before now BadWords Reads answers large read no_read = absurd answers
large-due settings (Some xs) old new before now (BadScenario fault) Reads answers large read no_read = absurd (omega (arith, answers.0.fits, large))
large-due settings (Some xs) old new before now ReadFault Reads answers large read no_read = absurd (no_read (read refl))
large-due settings (Some xs) old new before now WriteFault Reads answers large read no_read = absurd (omega (arith, answers.0.judged.fits, large))
large-due settings (Some xs) old new before now NoMemory Reads answers large read no_read = inr refl
large-due settings (Some xs) old new before now (BadWire other) Reads answers large read no_read = absurd answers
large-due settings (Some xs) old new before now (BadFrame other) Reads answers large read no_read = absurd answers
large-due settings (Some xs) old new before now (Illegal line) Reads answers large read no_read = absurd (omega (arith, answers.0.fits, large))
large-due settings (Some xs) old new before now NoOutput Reads answers large read no_read = absurd (omega (arith, answers.0.fits, large))
large-due settings (Some xs) old new before now CheckTooLarge Reads answers large read no_read = inl refl
