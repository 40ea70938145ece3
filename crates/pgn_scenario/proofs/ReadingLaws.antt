-- What the code's steps give is what an input reads as.
use Rattle.std.proofs.Common.{◌≡◌, ℕ, ◌≤◌, ◌<◌, Bool, cond, List, [], ◌∷◌, ◌++◌, length, Option, None, Some, Result, Ok, Err, sym, ap, ◌∙◌, refl, subst, is_some}
use Rattle.std.specs.Prelude.{IfOk, filter_map}
use Rattle.std.specs.Option.{option_to_list}
use Rattle.std.proofs.lemmas.Bool.{le-ltb, lt-ltb}
use Rattle.pgn_base.specs.declared.limits.TheConstants.{INPUT_BYTES_MAX}
use Rattle.pgn_language.specs.declared.scenario.Scenario.{Scenario}
use Rattle.pgn_language.specs.declared.scenario.Section.{Section}
use Rattle.pgn_language.specs.declared.scenario.ScenarioFault.{ScenarioFault}
use Rattle.pgn_language.specs.declared.scenario.ScenarioFault.TheVariants as fault
use Rattle.pgn_language.specs.Lines.{lines_of}
use Rattle.pgn_language.specs.Inputs.{all_say, flags_of, has_section, signalled_flag, unsignalled, scenario_of, sections_from, ReadsAsScenario, IsSound}
use Rattle.pgn_language.specs.laws.Inputs.{first_fault, whole_reading, lines_reading, input_reading}
use Rattle.pgn_language.proofs.InputLaws.{input-reads}
use Rattle.pgn_language.proofs.SoundLaws.{only-sound}
use Rattle.pgn_scenario.specs.Flags.{first_unsignalled}
use Rattle.pgn_scenario.specs.Steps.{State, at_start, steps, finished, outcome}
use Rattle.pgn_scenario.proofs.FaultLaws.{StandsFor, starts, AllFollow, steps_follow}
use Rattle.pgn_scenario.proofs.SectionLaws.{flags_made, sections_made}
use Rattle.pgn_scenario.proofs.AwaitLaws.{signals_made, waits_made, unsignalled_alike}

-- the lowest line that awaits a flag which no line signals
waits_whole : (lines : List (List ℕ)) (t : State) → steps at_start lines ≡ Ok t → first_unsignalled t.flags.signalled t.flags.awaited ≡ unsignalled (all_say lines)
waits_whole lines t h =
    let signalled : List (List ℕ) = filter_map signalled_flag (all_say lines) in
    unsignalled_alike t.flags.signalled signalled t.flags.awaited (λ other. sym (signals_made lines at_start t other h)) ∙ sym (waits_made lines signalled at_start t h)

-- the sections and the flags
whole_scenario : (lines : List (List ℕ)) (t : State) → steps at_start lines ≡ Ok t → record { sections = t.done ++ option_to_list t.part; flags = t.flags.names } ≡ scenario_of lines
unfolding scenario_of
whole_scenario lines t h =
    let flags : t.flags.names ≡ flags_of (all_say lines) = flags_made lines at_start t h in
    let sections : sections_from (flags_of (all_say lines)) 1 1 lines ≡ t.done ++ option_to_list t.part = sections_made lines at_start t (flags_of (all_say lines)) h refl in
    ap (λ (l : List Section). let x : Scenario = record { sections = l; flags = t.flags.names } in x) (sym sections)
    ∙ ap (λ (l : List (List ℕ)). let x : Scenario = record { sections = sections_from (flags_of (all_say lines)) 1 1 lines; flags = l } in x) flags

-- where the last state finishes
abbrev finishing : Option Section → Option ℕ → Scenario → Result Scenario ScenarioFault
finishing part line scenario = cond (is_some part) (elim line [ Some n ↦ Err (fault.NeverSignalled n) | None ↦ Ok scenario ]) (Err fault.Empty)

finished_by : (done : List Section) (part : Option Section) (line : Option ℕ) (flags : List (List ℕ))
    → (elim part as (λ _. Result Scenario ScenarioFault) [
      | None ↦ Err fault.Empty
      | Some one ↦ elim line as (λ _. Result Scenario ScenarioFault) [ Some n ↦ Err (fault.NeverSignalled n) | None ↦ Ok (record { sections = done ++ one ∷ []; flags = flags }) ]
    ]) ≡ finishing part line (record { sections = done ++ option_to_list part; flags = flags })
finished_by done None line flags = refl
finished_by done (Some one) None flags = refl
finished_by done (Some one) (Some n) flags = refl

whole_finishes : (lines : List (List ℕ)) (t : State) → steps at_start lines ≡ Ok t → StandsFor lines t → finished t ≡ whole_reading lines
whole_finishes lines t h k =
    let line : Option ℕ = first_unsignalled t.flags.signalled t.flags.awaited in
    let scenario : Scenario = record { sections = t.done ++ option_to_list t.part; flags = t.flags.names } in
    finished_by t.done t.part line t.flags.names
    ∙ ap (λ (b : Bool). cond b (elim line as (λ _. Result Scenario ScenarioFault) [ Some n ↦ Err (fault.NeverSignalled n) | None ↦ Ok scenario ]) (Err fault.Empty)) k.said.part
    ∙ ap (λ (o : Option ℕ). cond (has_section (all_say lines)) (elim o as (λ _. Result Scenario ScenarioFault) [ Some n ↦ Err (fault.NeverSignalled n) | None ↦ Ok scenario ]) (Err fault.Empty)) (waits_whole lines t h)
    ∙ ap (λ (x : Scenario). cond (has_section (all_say lines)) (elim (unsignalled (all_say lines)) as (λ _. Result Scenario ScenarioFault) [ Some n ↦ Err (fault.NeverSignalled n) | None ↦ Ok x ]) (Err fault.Empty)) (whole_scenario lines t h)

-- a reading that is computed
reads-computed : (input : List ℕ) (read : Result Scenario ScenarioFault) → input_reading input ≡ read → ReadsAsScenario input read
reads-computed input read e = subst (λ (r : Result Scenario ScenarioFault). ReadsAsScenario input r) e (input-reads input)

-- an input over its limit reads as too large
pub reads-large : (input : List ℕ) → INPUT_BYTES_MAX < length input → ReadsAsScenario input (Err fault.TooLarge)
reads-large input l = reads-computed input (Err fault.TooLarge) (rw (lt-ltb INPUT_BYTES_MAX (length input) l, input_reading) refl)

within_lines : (input : List ℕ) → length input ≤ INPUT_BYTES_MAX → input_reading input ≡ lines_reading (lines_of input)
within_lines input l = rw (le-ltb INPUT_BYTES_MAX (length input) l, input_reading) refl

made_follows : (lines : List (List ℕ)) (made : Result State ScenarioFault) → steps at_start lines ≡ made → AllFollow [] lines made
made_follows lines made e = subst (λ (r : Result State ScenarioFault). AllFollow [] lines r) e (steps_follow [] lines at_start starts)

-- the fault of the first line that has one
pub reads-faulty : (input : List ℕ) (found : ScenarioFault) → length input ≤ INPUT_BYTES_MAX → steps at_start (lines_of input) ≡ Err found → ReadsAsScenario input (Err found)
reads-faulty input found l h =
    let first : first_fault [] (lines_of input) ≡ Some found = made_follows (lines_of input) (Err found) h in
    reads-computed input (Err found) (within_lines input l ∙ rw (first, lines_reading) refl)

-- what all lines make, where none has a fault
reads-whole : (input : List ℕ) (t : State) → length input ≤ INPUT_BYTES_MAX → steps at_start (lines_of input) ≡ Ok t → ReadsAsScenario input (finished t)
reads-whole input t l h =
    let follows : (first_fault [] (lines_of input) ≡ None) × StandsFor (lines_of input) t = made_follows (lines_of input) (Ok t) h in
    let first : lines_reading (lines_of input) ≡ whole_reading (lines_of input) = let none : first_fault [] (lines_of input) ≡ None = follows.0 in rw (none, lines_reading) refl in
    reads-computed input (finished t) (within_lines input l ∙ first ∙ sym (whole_finishes (lines_of input) t h follows.1))

-- what is read is sound
sound-read : (input : List ℕ) (read : Result Scenario ScenarioFault) → ReadsAsScenario input read → IfOk read IsSound
sound-read input (Ok scenario) h = only-sound input scenario h
sound-read input (Err found) h = tt

-- what the lines of an input make, where they are taken from the start
pub taken : (input : List ℕ) (s t : State) (found : Option ScenarioFault) → s ≡ at_start → outcome found t ≡ steps s (lines_of input) → steps at_start (lines_of input) ≡ outcome found t
taken input s t found start h = subst (λ (x : State). steps x (lines_of input) ≡ outcome found t) start (sym h)

-- what is finished is read, where there is memory for it
pub finish-reads : {E : Type 0} (input : List ℕ) (t : State) (made : Result (Result Scenario ScenarioFault) E) → length input ≤ INPUT_BYTES_MAX → steps at_start (lines_of input) ≡ Ok t
    → IfOk made (λ reading. reading ≡ finished t) → IfOk made (ReadsAsScenario input)
finish-reads input t (Ok reading) l h e = subst (λ (r : Result Scenario ScenarioFault). ReadsAsScenario input r) (sym e) (reads-whole input t l h)
finish-reads input t (Err x) l h e = tt

-- a scenario that is the reading of an input is sound
pub read-sound : {E : Type 0} (input : List ℕ) (made : Result (Result Scenario ScenarioFault) E) → IfOk made (ReadsAsScenario input) → IfOk made (λ reading. IfOk reading IsSound)
read-sound input (Ok reading) h = sound-read input reading h
read-sound input (Err x) h = tt
