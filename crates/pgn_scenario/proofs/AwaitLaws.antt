-- The code's steps find the lowest line that awaits a flag which no line signals.
use Rattle.std.proofs.Common.{◌≡◌, ℕ, ◌+◌, Bool, true, false, cond, not, ◌||◌, inl, inr, List, [], ◌∷◌, ◌++◌, filter_map, Option, None, Some, Ok, sym, ap, ◌∙◌, refl, subst, bytes_eq, is_some}
use Rattle.std.specs.List.{position_from}
use Rattle.std.specs.Map.{lookup}
use Rattle.std.proofs.lemmas.Bool.{cases_Bool, false≢true}
use Rattle.std.proofs.lemmas.List.Folds.{list_any-append}
use Rattle.std.proofs.lemmas.Slice.Eq.{bytes_eq-Decides}
use Rattle.pgn_base.specs.Names.{has_name}
use Rattle.pgn_language.specs.Lines.{Says, SaysNothing, Opens, Runs, Signals, Awaits, Quits, NoMeta, says, trimmed}
use Rattle.pgn_language.specs.Inputs.{all_say, with_name, signalled_flag, is_unsignalled}
use Rattle.pgn_scenario.specs.Flags.{has_wait, with_wait, first_unsignalled}
use Rattle.pgn_scenario.specs.Steps.{State, steps}
use Rattle.pgn_scenario.proofs.SectionLaws.{made, next, first_step, same_line}

-- What is signalled.

same_or : (a b c : Bool) → (a || (b || c)) ≡ ((a || b) || c)
same_or true b c = refl
same_or false b c = refl

or_false : (a : Bool) → a ≡ (a || false)
or_false true = refl
or_false false = refl

-- a name that is there already counts once
or_known : (a b : Bool) → (b ≡ true → a ≡ true) → a ≡ (a || b)
or_known true b f = refl
or_known false true f = absurd (false≢true (f refl))
or_known false false f = refl

-- equal names are found alike
found_alike : (names : List (List ℕ)) (other flag : List ℕ) → bytes_eq other flag ≡ true → has_name names flag ≡ true → has_name names other ≡ true
found_alike names other flag e h = let same : other ≡ flag = (bytes_eq-Decides other flag).0 e in ap (has_name names) same ∙ h

has_with : (names : List (List ℕ)) (flag other : List ℕ) → has_name (with_name names flag) other ≡ (has_name names other || bytes_eq other flag)
has_with names flag other = elim (cases_Bool (has_name names flag)) [
  | inl e ↦ rw e (or_known (has_name names other) (bytes_eq other flag) (λ k. found_alike names other flag k e))
  | inr e ↦ rw e (list_any-append (bytes_eq other) names (flag ∷ []) ∙ ap (λ (b : Bool). has_name names other || b) (sym (or_false (bytes_eq other flag))))
]

signal_next : (s : State) (text : List ℕ) (one : Says) (more : List Says) (other : List ℕ)
    → (has_name (made s text one).flags.signalled other || has_name (filter_map signalled_flag more) other) ≡ (has_name s.flags.signalled other || has_name (filter_map signalled_flag (one ∷ more)) other)
signal_next s text SaysNothing more other = refl
signal_next s text (Opens name db) more other = refl
signal_next s text (Runs command) more other = refl
signal_next s text (Awaits flag) more other = refl
signal_next s text Quits more other = refl
signal_next s text NoMeta more other = refl
signal_next s text (Signals flag) more other =
    ap (λ (b : Bool). b || has_name (filter_map signalled_flag more) other) (has_with s.flags.signalled flag other)
    ∙ sym (same_or (has_name s.flags.signalled other) (bytes_eq other flag) (has_name (filter_map signalled_flag more) other))

-- a flag is signalled behind lines exactly where it was before them or one of them signals it
pub signals_made : (lines : List (List ℕ)) (s t : State) (other : List ℕ) → steps s lines ≡ Ok t
    → (has_name s.flags.signalled other || has_name (filter_map signalled_flag (all_say lines)) other) ≡ has_name t.flags.signalled other
signals_made [] s t other h = let same : s ≡ t = cc in sym (or_false (has_name s.flags.signalled other)) ∙ ap (λ (u : State). has_name u.flags.signalled other) same
signals_made (line ∷ lines) s t other h =
    sym (signal_next s (trimmed line) (says line) (all_say lines) other) ∙ signals_made lines (next s line) t other (first_step s t line lines h)

-- What is awaited.

-- the first of two answers
abbrev pub either_first : Option ℕ → Option ℕ → Option ℕ
either_first None o = o
either_first (Some n) o = Some n

-- what the lines so far and those that are left await, against the flags that are signalled
abbrev pub unsignalled_from : List (List ℕ) → List (List ℕ × ℕ) → ℕ → List Says → Option ℕ
unsignalled_from signalled awaited n said = either_first (first_unsignalled signalled awaited) (position_from (is_unsignalled signalled) n said)

wait_again : (signalled : List (List ℕ)) (awaited : List (List ℕ × ℕ)) (flag : List ℕ) (n : ℕ) (o : Option ℕ) → has_wait awaited flag ≡ true
    → either_first (first_unsignalled signalled awaited) o ≡ either_first (first_unsignalled signalled awaited) (cond (not (has_name signalled flag)) (Some n) o)
wait_again signalled [] flag n o h = absurd (false≢true h)
wait_again signalled (wait ∷ awaited) flag n o h = elim (cases_Bool (has_name signalled wait.0)) [
  | inr e ↦ rw e refl
  | inl e ↦ elim (cases_Bool (bytes_eq flag wait.0)) [
    | inl k ↦
        let same : flag ≡ wait.0 = (bytes_eq-Decides flag wait.0).0 k in
        let known : has_name signalled flag ≡ true = ap (has_name signalled) same ∙ e in
        ap (λ (b : Bool). either_first (first_unsignalled signalled (wait ∷ awaited)) (cond (not b) (Some n) o)) (sym known)
    | inr k ↦
        let rest : has_wait awaited flag ≡ true = subst (λ (b : Bool). is_some (cond b (Some wait.1) (lookup (bytes_eq flag) awaited)) ≡ true) k h in
        let more : either_first (first_unsignalled signalled awaited) o ≡ either_first (first_unsignalled signalled awaited) (cond (not (has_name signalled flag)) (Some n) o)
        = wait_again signalled awaited flag n o rest in
        rw e more
  ]
]

wait_new : (signalled : List (List ℕ)) (awaited : List (List ℕ × ℕ)) (flag : List ℕ) (n : ℕ) (o : Option ℕ)
    → either_first (first_unsignalled signalled (awaited ++ (flag, n) ∷ [])) o ≡ either_first (first_unsignalled signalled awaited) (cond (not (has_name signalled flag)) (Some n) o)
wait_new signalled [] flag n o = elim (cases_Bool (has_name signalled flag)) [
  | inl e ↦ rw e refl
  | inr e ↦ rw e refl
]
wait_new signalled (wait ∷ awaited) flag n o = elim (cases_Bool (has_name signalled wait.0)) [
  | inl e ↦ let more : either_first (first_unsignalled signalled (awaited ++ (flag, n) ∷ [])) o ≡ either_first (first_unsignalled signalled awaited) (cond (not (has_name signalled flag)) (Some n) o)
      = wait_new signalled awaited flag n o in rw e more
  | inr e ↦ rw e refl
]

waits_with : (signalled : List (List ℕ)) (awaited : List (List ℕ × ℕ)) (flag : List ℕ) (n : ℕ) (o : Option ℕ)
    → either_first (first_unsignalled signalled (with_wait awaited flag n)) o ≡ either_first (first_unsignalled signalled awaited) (cond (not (has_name signalled flag)) (Some n) o)
waits_with signalled awaited flag n o = elim (cases_Bool (has_wait awaited flag)) [
  | inl e ↦ rw e (wait_again signalled awaited flag n o e)
  | inr e ↦ rw e (wait_new signalled awaited flag n o)
]

wait_next : (signalled : List (List ℕ)) (s : State) (text : List ℕ) (one : Says) (more : List Says)
    → unsignalled_from signalled (made s text one).flags.awaited (s.line + 1) more ≡ unsignalled_from signalled s.flags.awaited s.line (one ∷ more)
wait_next signalled s text SaysNothing more = refl
wait_next signalled s text (Opens name db) more = refl
wait_next signalled s text (Runs command) more = refl
wait_next signalled s text (Signals flag) more = refl
wait_next signalled s text Quits more = refl
wait_next signalled s text NoMeta more = refl
wait_next signalled s text (Awaits flag) more = waits_with signalled s.flags.awaited flag s.line (position_from (is_unsignalled signalled) (s.line + 1) more)

nothing_more : (o : Option ℕ) → either_first o None ≡ o
nothing_more None = refl
nothing_more (Some n) = refl

-- the first flag that is awaited and signalled nowhere, of those kept and of the lines that were read
pub waits_made : (lines : List (List ℕ)) (signalled : List (List ℕ)) (s t : State) → steps s lines ≡ Ok t
    → unsignalled_from signalled s.flags.awaited s.line (all_say lines) ≡ first_unsignalled signalled t.flags.awaited
waits_made [] signalled s t h = let same : s ≡ t = cc in nothing_more (first_unsignalled signalled s.flags.awaited) ∙ ap (λ (u : State). first_unsignalled signalled u.flags.awaited) same
waits_made (line ∷ lines) signalled s t h =
    sym (wait_next signalled s (trimmed line) (says line) (all_say lines))
    ∙ ap (λ (n : ℕ). unsignalled_from signalled (made s (trimmed line) (says line)).flags.awaited (n + 1) (all_say lines)) (sym (same_line s (trimmed line) (says line)))
    ∙ waits_made lines signalled (next s line) t (first_step s t line lines h)

-- two lists with the same names give the same answer
pub unsignalled_alike : (a b : List (List ℕ)) (awaited : List (List ℕ × ℕ)) → ((other : List ℕ) → has_name a other ≡ has_name b other) → first_unsignalled a awaited ≡ first_unsignalled b awaited
unsignalled_alike a b [] h = refl
unsignalled_alike a b (wait ∷ awaited) h =
    ap (λ (t : Bool). cond t (first_unsignalled a awaited) (Some wait.1)) (h wait.0) ∙ ap (λ (o : Option ℕ). cond (has_name b wait.0) o (Some wait.1)) (unsignalled_alike a b awaited h)
