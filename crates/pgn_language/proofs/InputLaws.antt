-- An input has one reading.
use Rattle.std.proofs.Common.{◌≡◌, ℕ, ◌+◌, ◌≤◌, ◌⊎◌, inl, inr, List, [], ◌∷◌, ◌++◌, length, Option, None, Some, Result, sym, ap, ◌∙◌, refl, subst, append_assoc}
use Rattle.std.proofs.lemmas.List.{append-nil}
use Rattle.pgn_base.specs.declared.limits.TheConstants.{INPUT_BYTES_MAX}
use Rattle.std.proofs.lemmas.Bool.{cases_Bool, cases_lt, lt-ltb, le-ltb}
use Rattle.pgn_language.specs.declared.scenario.Scenario.{Scenario}
use Rattle.pgn_language.specs.declared.scenario.ScenarioFault.{ScenarioFault}
use Rattle.pgn_language.specs.Lines.{lines_of}
use Rattle.pgn_language.specs.Inputs.{all_say, fault_of, has_section, unsignalled, HaveNoFault, ReadsAsScenario, Large, Faulty, Sectionless, Unsignalled, Faultless}
use Rattle.pgn_language.specs.laws.Inputs.{first_fault, whole_reading, lines_reading, input_reading}

-- none of these lines has a fault after those before it and the first ones
abbrev pub SoundAfter : List (List ℕ) → List (List ℕ) → Type 0
SoundAfter before lines = (front : List (List ℕ)) (line : List ℕ) (rest : List (List ℕ)) → lines ≡ front ++ line ∷ rest → fault_of (before ++ front) line ≡ None

-- the first of these lines with a fault
record FirstFaulty (before lines : List (List ℕ)) (found : ScenarioFault) : Type 0 where
  front : List (List ℕ)
  line : List ℕ
  rest : List (List ℕ)
  whole : lines ≡ front ++ line ∷ rest
  sound : SoundAfter before front
  here : fault_of (before ++ front) line ≡ Some found

one_of : {X : Type 0} (o : Option X) → (o ≡ None) ⊎ ((x : X) × (o ≡ Some x))
one_of None = inl refl
one_of (Some x) = inr (x, refl)

-- nothing has no part
pub nothing_in : {X : Type 0} (front : List X) (x : X) (rest : List X) → [] ≡ front ++ x ∷ rest → ⊥
nothing_in [] x rest e = absurd (cc)
nothing_in (y ∷ front) x rest e = absurd (cc)

first_of : {X : Type 0} (x y : X) (xs ys : List X) → x ∷ xs ≡ y ∷ ys → (x ≡ y) × (xs ≡ ys)
first_of x y xs ys e = (cc, cc)

-- a line without a fault, and sound lines after it
sound-more : (before : List (List ℕ)) (line : List ℕ) (lines : List (List ℕ)) → fault_of before line ≡ None → SoundAfter (before ++ line ∷ []) lines → SoundAfter before (line ∷ lines)
sound-more before line lines h rest [] other more e =
    let same : (line ≡ other) × (lines ≡ more) = first_of line other lines more e in
    ap (λ (b : List (List ℕ)). fault_of b other) (append-nil before) ∙ ap (fault_of before) (sym same.0) ∙ h
sound-more before line lines h rest (x ∷ front) other more e =
    let same : (line ≡ x) × (lines ≡ front ++ other ∷ more) = first_of line x lines (front ++ other ∷ more) e in
    ap (λ (b : List (List ℕ)). fault_of b other) (ap (λ (y : List ℕ). before ++ y ∷ front) (sym same.0) ∙ sym (append_assoc before (line ∷ []) front)) ∙ rest front other more same.1

-- lines without a fault are sound
pub none-sound : (before lines : List (List ℕ)) → first_fault before lines ≡ None → SoundAfter before lines
none-sound before [] h = λ front line rest e. absurd (nothing_in front line rest e)
none-sound before (line ∷ lines) h = elim (one_of (fault_of before line)) [
  | inl e ↦ sound-more before line lines e (none-sound (before ++ line ∷ []) lines (subst (λ (o : Option ScenarioFault). elim o as (λ _. Option ScenarioFault) [ None ↦ first_fault (before ++ line ∷ []) lines | Some found ↦ Some found ] ≡ None) e h))
  | inr p ↦ let no_more : Some p.0 ≡ None = subst (λ (o : Option ScenarioFault). elim o as (λ _. Option ScenarioFault) [ None ↦ first_fault (before ++ line ∷ []) lines | Some found ↦ Some found ] ≡ None) p.1 h in absurd (cc)
]

-- what the first line of sound ones says, and what the others say
pub sound-first : (before : List (List ℕ)) (line : List ℕ) (lines : List (List ℕ)) → SoundAfter before (line ∷ lines) → fault_of before line ≡ None
sound-first before line lines h = ap (λ (b : List (List ℕ)). fault_of b line) (sym (append-nil before)) ∙ h [] line lines refl

-- lines that are sound after others: those behind the first are sound after it too
pub sound-rest : (before : List (List ℕ)) (line : List ℕ) (lines : List (List ℕ)) → SoundAfter before (line ∷ lines) → SoundAfter (before ++ line ∷ []) lines
sound-rest before line lines h front other more e =
    ap (λ (b : List (List ℕ)). fault_of b other) (append_assoc before (line ∷ []) front) ∙ h (line ∷ front) other more (ap (λ (l : List (List ℕ)). line ∷ l) e)

sound-none : (before lines : List (List ℕ)) → SoundAfter before lines → first_fault before lines ≡ None
sound-none before [] h = refl
sound-none before (line ∷ lines) h = rw (sound-first before line lines h, first_fault) (sound-none (before ++ line ∷ []) lines (sound-rest before line lines h))

first-faulty : (before lines : List (List ℕ)) (found : ScenarioFault) → first_fault before lines ≡ Some found → FirstFaulty before lines found
first-faulty before [] found h = absurd (cc)
first-faulty before (line ∷ lines) found h = elim (one_of (fault_of before line)) [
  | inl e ↦
      let next : FirstFaulty (before ++ line ∷ []) lines found = first-faulty (before ++ line ∷ []) lines found
      (subst (λ (o : Option ScenarioFault). elim o as (λ _. Option ScenarioFault) [ None ↦ first_fault (before ++ line ∷ []) lines | Some other ↦ Some other ] ≡ Some found) e h) in
      record {
        front = line ∷ next.front;
        line = next.line;
        rest = next.rest;
        whole = ap (λ (l : List (List ℕ)). line ∷ l) next.whole;
        sound = sound-more before line next.front e next.sound;
        here = ap (λ (b : List (List ℕ)). fault_of b next.line) (sym (append_assoc before (line ∷ []) next.front)) ∙ next.here;
      }
  | inr p ↦
      let same : Some p.0 ≡ Some found = subst (λ (o : Option ScenarioFault). elim o as (λ _. Option ScenarioFault) [ None ↦ first_fault (before ++ line ∷ []) lines | Some other ↦ Some other ] ≡ Some found) p.1 h in
      record {
        front = [];
        line = line;
        rest = lines;
        whole = refl;
        sound = λ front other more e. absurd (nothing_in front other more e);
        here = ap (λ (b : List (List ℕ)). fault_of b line) (append-nil before) ∙ p.1 ∙ same;
      }
]

faulty-first : (before front : List (List ℕ)) (line : List ℕ) (rest : List (List ℕ)) (found : ScenarioFault) → SoundAfter before front → fault_of (before ++ front) line ≡ Some found
    → first_fault before (front ++ line ∷ rest) ≡ Some found
faulty-first before [] line rest found h e =
    let here : fault_of before line ≡ Some found = ap (λ (b : List (List ℕ)). fault_of b line) (sym (append-nil before)) ∙ e in
    rw (here, first_fault) refl
faulty-first before (x ∷ front) line rest found h e =
    rw (sound-first before x front h, first_fault)
    (faulty-first (before ++ x ∷ []) front line rest found (sound-rest before x front h) (ap (λ (b : List (List ℕ)). fault_of b line) (append_assoc before (x ∷ []) front) ∙ e))

-- what is computed is read
reads-whole : (input : List ℕ) → length input ≤ INPUT_BYTES_MAX → HaveNoFault (lines_of input) → ReadsAsScenario input (whole_reading (lines_of input))
reads-whole input within sound = elim (cases_Bool (has_section (all_say (lines_of input)))) [
  | inl e ↦ elim (one_of (unsignalled (all_say (lines_of input)))) [
    | inl f ↦ rw (e, f, whole_reading) (Faultless within sound e f)
    | inr p ↦ rw (e, p.1, whole_reading) (Unsignalled within sound e p.0 p.1)
  ]
  | inr e ↦ rw (e, whole_reading) (Sectionless within sound e)
]

reads-lines : (input : List ℕ) → length input ≤ INPUT_BYTES_MAX → ReadsAsScenario input (lines_reading (lines_of input))
reads-lines input within = elim (one_of (first_fault [] (lines_of input))) [
  | inl e ↦ rw (e, lines_reading) (reads-whole input within (none-sound [] (lines_of input) e))
  | inr p ↦ let first : FirstFaulty [] (lines_of input) p.0 = first-faulty [] (lines_of input) p.0 p.1 in
      rw (p.1, lines_reading) (Faulty within first.front first.line first.rest first.whole first.sound p.0 first.here)
]

-- an input reads as what is computed of it
pub input-reads : (input : List ℕ) → ReadsAsScenario input (input_reading input)
input-reads input = elim (cases_lt INPUT_BYTES_MAX (length input)) [
  | inl l ↦ rw (lt-ltb INPUT_BYTES_MAX (length input) l, input_reading) (Large l)
  | inr l ↦ rw (le-ltb INPUT_BYTES_MAX (length input) l, input_reading) (reads-lines input l)
]

-- what is read is computed
within-lines : (input : List ℕ) → length input ≤ INPUT_BYTES_MAX → input_reading input ≡ lines_reading (lines_of input)
within-lines input l = rw (le-ltb INPUT_BYTES_MAX (length input) l, input_reading) refl

sound-whole : (lines : List (List ℕ)) → HaveNoFault lines → lines_reading lines ≡ whole_reading lines
sound-whole lines h = rw (sound-none [] lines h, lines_reading) refl

-- what an input reads as is what is computed
pub reads-input : (input : List ℕ) (read : Result Scenario ScenarioFault) → ReadsAsScenario input read → input_reading input ≡ read
reads-input input _ (Large l) = rw (lt-ltb INPUT_BYTES_MAX (length input) l, input_reading) refl
reads-input input _ (Faulty l before line rest e sound found here) =
    let first : first_fault [] (lines_of input) ≡ Some found = ap (first_fault []) e ∙ faulty-first [] before line rest found sound here in
    within-lines input l ∙ rw (first, lines_reading) refl
reads-input input _ (Sectionless l sound e) = within-lines input l ∙ sound-whole (lines_of input) sound ∙ rw (e, whole_reading) refl
reads-input input _ (Unsignalled l sound e n f) = within-lines input l ∙ sound-whole (lines_of input) sound ∙ rw (e, f, whole_reading) refl
reads-input input _ (Faultless l sound e f) = within-lines input l ∙ sound-whole (lines_of input) sound ∙ rw (e, f, whole_reading) refl
