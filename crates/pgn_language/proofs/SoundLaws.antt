-- Only sound scenarios are read.
use Rattle.std.proofs.Common.{◌≡◌, ℕ, ◌+◌, ◌<◌, ◌≤◌, Bool, true, false, cond, not, ◌&&◌, ◌||◌, ◌==◌, ◌⊎◌, inl, inr, List, [], ◌∷◌, ◌++◌, length, filter_map, Option, None, Some, Result, Ok, sym, ap, ◌∙◌, refl, subst, arith, append_assoc, length-append, codes, bytes_eq}
use Rattle.std.specs.Prelude.{nat_lt, nat_le, count_by, sum_by, fold, All, IfSome, IfOk, Contains, option_map}
use Rattle.std.specs.List.{list_all, list_any, onto_first, position_or_len}
use Rattle.std.specs.Option.{option_to_list}
use Rattle.std.specs.Str.{is_utf8}
use Rattle.std.specs.Str.Lossy.{utf8_valid_len}
use Rattle.std.proofs.lemmas.Bool.{and_parts, or_cases, or_left, or_right, cases_Bool, false≢true, both_ways, ltb-false}
use Rattle.std.proofs.lemmas.List.{append-nil, map-append}
use Rattle.std.proofs.lemmas.List.Sums.{sum_by-append, fold_push, AllPass-from_list_all}
use Rattle.std.proofs.lemmas.List.Folds.{list_any-append}
use Rattle.std.proofs.lemmas.Slice.Eq.{bytes_eq-Decides}
use Rattle.std.proofs.lemmas.List.Recursion.{is_position_or_len}
use Rattle.std.proofs.lemmas.List.Elements.{filter_map-append, All-nil, All-cons, All-head, All-tail, All-append, All-contains, Contains-append_left, Contains-append_right}
use Rattle.pgn_base.specs.declared.limits.TheConstants.{FLAGS_MAX, LINE_BYTES_MAX, NOTE_LINES_MAX, SECTIONS_MAX}
use Rattle.pgn_base.specs.Names.{has_name}
use Rattle.pgn_base.specs.declared.command.Command.{Command}
use Rattle.pgn_base.specs.declared.command.Command.TheVariants as command
use Rattle.pgn_language.specs.declared.scenario.Act.{Act}
use Rattle.pgn_language.specs.declared.scenario.Act.TheVariants.{Run, Signal, Await, Quit}
use Rattle.pgn_language.specs.declared.scenario.ScriptLine.{ScriptLine}
use Rattle.pgn_language.specs.declared.scenario.Section.{Section}
use Rattle.pgn_language.specs.declared.scenario.ScenarioFault.{ScenarioFault}
use Rattle.pgn_language.specs.declared.scenario.ScenarioFault.TheVariants as fault
use Rattle.pgn_language.specs.Lines.{Says, SaysNothing, Opens, Runs, Signals, Awaits, Quits, NoMeta, says, trimmed, is_label, is_label_byte, is_database, meta_says, command_says, text_says, begins_meta, parts_of, lines_of}
use Rattle.std.specs.Str.Parse.{digits_value}
use Rattle.pgn_language.specs.laws.Inputs.{IsTextOf}
use Rattle.pgn_language.proofs.LineLaws.{is-trimmed}
use Rattle.pgn_language.proofs.OneLineCommands.{none-line, line-cons, reads-one_line}
use Rattle.pgn_language.specs.declared.scenario.Scenario.{Scenario}
use Rattle.pgn_language.specs.Inputs.{all_say, is_opening, is_quit, notifies, opened_name, named_flag, with_name, section_names, flags_of, has_quit, is_bad_meta, lacks_session, repeats_name, are_too_many, fault_said, fault_of, line_number, line_start, flag_number, act_of, script_line, script_line_of, script_from, is_note_act, note_lines_of, section, section_at, scenario_of, HaveNoFault, IsSoundSection, IsSound, IsOneLineCommand, IsOneLineAct, ReadsAsScenario, Large, Faulty, Sectionless, Unsignalled, Faultless, sections_from, AreNumbered, HasFlagBelow, IsBelowFirst, Rise, QuitsLast, IsOneLine, has_section}
use Rattle.pgn_language.proofs.InputLaws.{SoundAfter, sound-first, sound-rest}
use Rattle.pgn_language.specs.Grammar.{reading}

-- what holds of a line without a fault
record IsClean (before : List (List ℕ)) (line : List ℕ) : Type 0 where
  meta : is_bad_meta (all_say before) (says line) ≡ false
  few : are_too_many (all_say before ++ says line ∷ []) ≡ false

last_two : (a b c d : Bool) (w x y z : ScenarioFault) → cond a (Some w) (cond b (Some x) (cond c (Some y) (cond d (Some z) None))) ≡ None → (a ≡ false) × (d ≡ false)
last_two true b c d w x y z h = absurd (cc)
last_two false true c d w x y z h = absurd (cc)
last_two false false true d w x y z h = absurd (cc)
last_two false false false true w x y z h = absurd (cc)
last_two false false false false w x y z h = (refl, refl)

past_bytes : (a b c : Bool) (x y z : ScenarioFault) (o : Option ScenarioFault) → cond a (Some x) (cond b (Some y) (cond c (Some z) o)) ≡ None → o ≡ None
past_bytes true b c x y z o h = absurd (cc)
past_bytes false true c x y z o h = absurd (cc)
past_bytes false false true x y z o h = absurd (cc)
past_bytes false false false x y z o h = h

clean : (before : List (List ℕ)) (line : List ℕ) → fault_of before line ≡ None → IsClean before line
unfolding fault_of
clean before line h =
    let n : ℕ = line_number before in
    let said : fault_said n (all_say before) (says line) ≡ None
    = past_bytes (nat_lt LINE_BYTES_MAX (length line)) (not (is_utf8 line)) (list_any (λ byte. byte == 0) line)
    (fault.LineTooLong n) (fault.NotUtf8 (line_start before + utf8_valid_len line)) (fault.NulByte n) (fault_said n (all_say before) (says line)) h in
    let parts : (is_bad_meta (all_say before) (says line) ≡ false) × (are_too_many (all_say before ++ says line ∷ []) ≡ false)
    = last_two (is_bad_meta (all_say before) (says line)) (lacks_session (all_say before) (says line)) (repeats_name (all_say before) (says line)) (are_too_many (all_say before ++ says line ∷ []))
    (fault.BadMeta n) (fault.NoSession n) (fault.SameName n) (fault.TooMany n) said in
    record { meta = parts.0; few = parts.1 }

said_more : (before : List (List ℕ)) (line : List ℕ) → all_say (before ++ line ∷ []) ≡ all_say before ++ says line ∷ []
said_more before line = map-append says before (line ∷ [])

-- sound lines are not too many
few-after : (before lines : List (List ℕ)) → SoundAfter before lines → are_too_many (all_say before) ≡ false → are_too_many (all_say (before ++ lines)) ≡ false
few-after before [] sound h = ap (λ (l : List (List ℕ)). are_too_many (all_say l)) (append-nil before) ∙ h
few-after before (line ∷ lines) sound h =
    let here : IsClean before line = clean before line (sound-first before line lines sound) in
    ap (λ (l : List (List ℕ)). are_too_many (all_say l)) (sym (append_assoc before (line ∷ []) lines))
    ∙ few-after (before ++ line ∷ []) lines (sound-rest before line lines sound) (ap are_too_many (said_more before line) ∙ here.few)

-- what is not too many
record AreFew (said : List Says) : Type 0 where
  sections : length (section_names said) ≤ SECTIONS_MAX
  flags : length (flags_of said) ≤ FLAGS_MAX
  notes : count_by notifies said ≤ NOTE_LINES_MAX

none_of_three : (a b c : Bool) → (a || b || c) ≡ false → (a ≡ false) × (b ≡ false) × (c ≡ false)
none_of_three true true c h = absurd (cc)
none_of_three true false c h = absurd (cc)
none_of_three false true c h = absurd (cc)
none_of_three false false true h = absurd (cc)
none_of_three false false false h = (refl, refl, refl)

few : (said : List Says) → are_too_many said ≡ false → AreFew said
few said h =
    let parts : (nat_lt SECTIONS_MAX (length (section_names said)) ≡ false) × (nat_lt FLAGS_MAX (length (flags_of said)) ≡ false) × (nat_lt NOTE_LINES_MAX (count_by notifies said) ≡ false)
    = none_of_three (nat_lt SECTIONS_MAX (length (section_names said))) (nat_lt FLAGS_MAX (length (flags_of said))) (nat_lt NOTE_LINES_MAX (count_by notifies said)) h in
    record {
      sections = ltb-false SECTIONS_MAX (length (section_names said)) parts.0;
      flags = ltb-false FLAGS_MAX (length (flags_of said)) parts.1;
      notes = ltb-false NOTE_LINES_MAX (count_by notifies said) parts.2;
    }

-- sections are those that lines open, numbered
count_at : (flags : List (List ℕ)) (number n : ℕ) (said : Says) (lines : List (List ℕ)) → length (section_at flags number n said lines) ≡ length (section_names (said ∷ []))
count_at flags number n SaysNothing lines = refl
count_at flags number n (Opens name db) lines = refl
count_at flags number n (Runs run) lines = refl
count_at flags number n (Signals flag) lines = refl
count_at flags number n (Awaits flag) lines = refl
count_at flags number n Quits lines = refl
count_at flags number n NoMeta lines = refl

names_cons : (said : Says) (more : List Says) → section_names (said ∷ more) ≡ section_names (said ∷ []) ++ section_names more
names_cons said more = filter_map-append opened_name (said ∷ []) more

sections-counted : (flags : List (List ℕ)) (number n : ℕ) (lines : List (List ℕ)) → length (sections_from flags number n lines) ≡ length (section_names (all_say lines))
sections-counted flags number n [] = refl
sections-counted flags number n (line ∷ lines) =
    let here : List Section = section_at flags number (n + 1) (says line) lines in
    let rest : length (sections_from flags (number + length here) (n + 1) lines) ≡ length (section_names (all_say lines)) = sections-counted flags (number + length here) (n + 1) lines in
    let one : length here ≡ length (section_names (says line ∷ [])) = count_at flags number (n + 1) (says line) lines in
    let names : length (section_names (says line ∷ all_say lines)) ≡ length (section_names (says line ∷ [])) + length (section_names (all_say lines))
    = ap length (names_cons (says line) (all_say lines)) ∙ length-append (section_names (says line ∷ [])) (section_names (all_say lines)) in
    let whole : length (here ++ sections_from flags (number + length here) (n + 1) lines) ≡ length here + length (sections_from flags (number + length here) (n + 1) lines)
    = length-append here (sections_from flags (number + length here) (n + 1) lines) in
    omega (arith, rest, one, names, whole)

numbered_at : (flags : List (List ℕ)) (number n : ℕ) (said : Says) (lines : List (List ℕ)) (rest : List Section)
    → AreNumbered (number + length (section_at flags number n said lines)) rest → AreNumbered number (section_at flags number n said lines ++ rest)
numbered_at flags number n (Opens name db) lines rest h = (refl, h)
numbered_at flags number n SaysNothing lines rest h = subst (λ (k : ℕ). AreNumbered k rest) (let same : number + 0 ≡ number = omega arith in same) h
numbered_at flags number n (Runs run) lines rest h = subst (λ (k : ℕ). AreNumbered k rest) (let same : number + 0 ≡ number = omega arith in same) h
numbered_at flags number n (Signals flag) lines rest h = subst (λ (k : ℕ). AreNumbered k rest) (let same : number + 0 ≡ number = omega arith in same) h
numbered_at flags number n (Awaits flag) lines rest h = subst (λ (k : ℕ). AreNumbered k rest) (let same : number + 0 ≡ number = omega arith in same) h
numbered_at flags number n Quits lines rest h = subst (λ (k : ℕ). AreNumbered k rest) (let same : number + 0 ≡ number = omega arith in same) h
numbered_at flags number n NoMeta lines rest h = subst (λ (k : ℕ). AreNumbered k rest) (let same : number + 0 ≡ number = omega arith in same) h

numbered : (flags : List (List ℕ)) (number n : ℕ) (lines : List (List ℕ)) → AreNumbered number (sections_from flags number n lines)
numbered flags number n [] = tt
numbered flags number n (line ∷ lines) =
    let here : List Section = section_at flags number (n + 1) (says line) lines in
    numbered_at flags number (n + 1) (says line) lines (sections_from flags (number + length here) (n + 1) lines) (numbered flags (number + length here) (n + 1) lines)

-- where a section begins, there is a name
one_named : (said : Says) → is_opening said ≡ true → 0 < length (section_names (said ∷ []))
one_named (Opens name db) h = omega arith
one_named SaysNothing h = absurd (cc)
one_named (Runs run) h = absurd (cc)
one_named (Signals flag) h = absurd (cc)
one_named (Awaits flag) h = absurd (cc)
one_named Quits h = absurd (cc)
one_named NoMeta h = absurd (cc)

some_named : (said : List Says) → has_section said ≡ true → 0 < length (section_names said)
some_named [] h = absurd (false≢true h)
some_named (one ∷ more) h =
    let names : length (section_names (one ∷ more)) ≡ length (section_names (one ∷ [])) + length (section_names more)
    = ap length (names_cons one more) ∙ length-append (section_names (one ∷ [])) (section_names more) in
    elim (or_cases (is_opening one) (has_section more) h) [
      | inl e ↦ let here : 0 < length (section_names (one ∷ [])) = one_named one e in omega (arith, names, here)
      | inr e ↦ let rest : 0 < length (section_names more) = some_named more e in omega (arith, names, rest)
    ]

-- Lines that notify.

-- whether a line notifies, as a number
abbrev noting : Says → ℕ
noting said = cond (notifies said) 1 0

abbrev notes_in : List Section → ℕ
notes_in sections = sum_by (λ (one : Section). one.note_lines) sections

notes_at : (flags : List (List ℕ)) (number n : ℕ) (line : List ℕ) (said : Says) (lines : List (List ℕ))
    → note_lines_of (cond (is_opening said) [] (option_to_list (option_map (script_line n (trimmed line)) (act_of flags said)) ++ script_from flags (n + 1) lines))
    + notes_in (section_at flags number (n + 1) said lines) ≡ noting said + note_lines_of (script_from flags (n + 1) lines)
notes_at flags number n line (Opens name db) lines =
    let sum : notes_in (section_at flags number (n + 1) (Opens name db) lines) ≡ 0 + note_lines_of (script_from flags (n + 1) lines) = refl in omega (arith, sum)
notes_at flags number n line SaysNothing lines = omega arith
notes_at flags number n line (Runs run) lines =
    let one : ScriptLine = script_line n (trimmed line) (Run run) in
    let rest : List ScriptLine = script_from flags (n + 1) lines in
    let sum : note_lines_of (one ∷ rest) ≡ note_lines_of (one ∷ []) + note_lines_of rest = sum_by-append (λ (l : ScriptLine). cond (is_note_act l.act) 1 0) (one ∷ []) rest in
    omega (arith, sum)
notes_at flags number n line (Signals flag) lines = omega arith
notes_at flags number n line (Awaits flag) lines = omega arith
notes_at flags number n line Quits lines = omega arith
notes_at flags number n line NoMeta lines = omega arith

notes-counted : (flags : List (List ℕ)) (number n : ℕ) (lines : List (List ℕ)) → note_lines_of (script_from flags n lines) + notes_in (sections_from flags number n lines) ≡ count_by notifies (all_say lines)
notes-counted flags number n [] = refl
notes-counted flags number n (line ∷ lines) =
    let here : List Section = section_at flags number (n + 1) (says line) lines in
    let more : List Section = sections_from flags (number + length here) (n + 1) lines in
    let rest : note_lines_of (script_from flags (n + 1) lines) + notes_in more ≡ count_by notifies (all_say lines) = notes-counted flags (number + length here) (n + 1) lines in
    let one : note_lines_of (script_from flags n (line ∷ lines)) + notes_in here ≡ noting (says line) + note_lines_of (script_from flags (n + 1) lines) = notes_at flags number n line (says line) lines in
    let whole : notes_in (here ++ more) ≡ notes_in here + notes_in more = sum_by-append (λ (s : Section). s.note_lines) here more in
    let said : count_by notifies (says line ∷ all_say lines) ≡ count_by notifies (says line ∷ []) + count_by notifies (all_say lines) = sum_by-append (λ (s : Says). cond (notifies s) 1 0) (says line ∷ []) (all_say lines) in
    omega (arith, rest, one, whole, said)

-- The flags.

-- a place of one that passes
abbrev place_of : {X : Type 0} → (X → Bool) → List X → ℕ
place_of p [] = 0
place_of p (x ∷ xs) = cond (p x) 0 (1 + place_of p xs)

placed : {X : Type 0} (p : X → Bool) (xs : List X) → list_any p xs ≡ true → place_of p xs < length xs
placed p [] h = absurd (false≢true h)
placed p (x ∷ xs) h = elim (cases_Bool (p x)) [
  | inl e ↦ rw e (omega arith)
  | inr e ↦ let rest : place_of p xs < length xs = placed p xs (subst (λ (b : Bool). b || list_any p xs ≡ true) e h) in rw e (omega (arith, rest))
]

flag-below : (flags : List (List ℕ)) (flag : List ℕ) → has_name flags flag ≡ true → flag_number flags flag < length flags
flag-below flags flag h =
    let same : place_of (bytes_eq flag) flags ≡ position_or_len (bytes_eq flag) flags = is_position_or_len (place_of (bytes_eq flag)) (bytes_eq flag) refl (λ x xs. refl) flags in
    let low : place_of (bytes_eq flag) flags < length flags = placed (bytes_eq flag) flags h in
    omega (arith, same, low)

-- each flag that is named is among the flags
abbrev AreNamed : List (List ℕ) → List Says → Type 0
AreNamed flags [] = Unit {0}
AreNamed flags (Signals flag ∷ said) = (has_name flags flag ≡ true) × AreNamed flags said
AreNamed flags (Awaits flag ∷ said) = (has_name flags flag ≡ true) × AreNamed flags said
AreNamed flags (one ∷ said) = AreNamed flags said

named-rest : (flags : List (List ℕ)) (one : Says) (said : List Says) → AreNamed flags (one ∷ said) → AreNamed flags said
named-rest flags SaysNothing said h = h
named-rest flags (Opens name db) said h = h
named-rest flags (Runs run) said h = h
named-rest flags (Signals flag) said h = h.1
named-rest flags (Awaits flag) said h = h.1
named-rest flags Quits said h = h
named-rest flags NoMeta said h = h

-- a name stays among names
kept-with : (names : List (List ℕ)) (name other : List ℕ) → has_name names name ≡ true → has_name (with_name names other) name ≡ true
kept-with names name other h = elim (cases_Bool (has_name names other)) [
  | inl e ↦ rw e h
  | inr e ↦ rw e (list_any-append (bytes_eq name) names (other ∷ []) ∙ or_left (list_any (bytes_eq name) names) (list_any (bytes_eq name) (other ∷ [])) h)
]

with-it : (names : List (List ℕ)) (name : List ℕ) → has_name (with_name names name) name ≡ true
with-it names name = elim (cases_Bool (has_name names name)) [
  | inl e ↦ rw e e
  | inr e ↦ rw e (list_any-append (bytes_eq name) names (name ∷ []) ∙ or_right (list_any (bytes_eq name) names) (list_any (bytes_eq name) (name ∷ []))
      (or_left (bytes_eq name name) false ((bytes_eq-Decides name name).1 refl)))
]

kept-fold : (names more : List (List ℕ)) (name : List ℕ) → has_name names name ≡ true → has_name (fold with_name names more) name ≡ true
kept-fold names [] name h = h
kept-fold names (other ∷ more) name h = kept-fold (with_name names other) more name (kept-with names name other h)

flags-named : (before : List (List ℕ)) (said : List Says) → AreNamed (fold with_name before (filter_map named_flag said)) said
flags-named before [] = tt
flags-named before (Signals flag ∷ said) = (kept-fold (with_name before flag) (filter_map named_flag said) flag (with-it before flag), flags-named (with_name before flag) said)
flags-named before (Awaits flag ∷ said) = (kept-fold (with_name before flag) (filter_map named_flag said) flag (with-it before flag), flags-named (with_name before flag) said)
flags-named before (SaysNothing ∷ said) = flags-named before said
flags-named before (Opens name db ∷ said) = flags-named before said
flags-named before (Runs run ∷ said) = flags-named before said
flags-named before (Quits ∷ said) = flags-named before said
flags-named before (NoMeta ∷ said) = flags-named before said

-- Script lines.

script-cons : (P : ScriptLine → Type 0) (flags : List (List ℕ)) (n : ℕ) (line : List ℕ) (said : Says) (rest : List ScriptLine) → ((act : Act) → act_of flags said ≡ Some act → P (script_line n (trimmed line) act)) → All P rest
    → All P (option_to_list (option_map (script_line n (trimmed line)) (act_of flags said)) ++ rest)
script-cons P flags n line SaysNothing rest h k = k
script-cons P flags n line (Opens name db) rest h k = k
script-cons P flags n line NoMeta rest h k = k
script-cons P flags n line (Runs run) rest h k = All-cons P (script_line n (trimmed line) (Run run)) rest (h (Run run) refl) k
script-cons P flags n line (Signals flag) rest h k = All-cons P (script_line n (trimmed line) (Signal (flag_number flags flag))) rest (h (Signal (flag_number flags flag)) refl) k
script-cons P flags n line (Awaits flag) rest h k = All-cons P (script_line n (trimmed line) (Await (flag_number flags flag))) rest (h (Await (flag_number flags flag)) refl) k
script-cons P flags n line Quits rest h k = All-cons P (script_line n (trimmed line) Quit) rest (h Quit refl) k

below-act : (flags : List (List ℕ)) (one : Says) (said : List Says) (act : Act) → AreNamed flags (one ∷ said) → act_of flags one ≡ Some act → HasFlagBelow (length flags) act
below-act flags (Signals flag) said act h e = subst (λ (o : Option Act). IfSome o (HasFlagBelow (length flags))) e (flag-below flags flag h.0)
below-act flags (Awaits flag) said act h e = subst (λ (o : Option Act). IfSome o (HasFlagBelow (length flags))) e (flag-below flags flag h.0)
below-act flags (Runs run) said act h e = subst (λ (o : Option Act). IfSome o (HasFlagBelow (length flags))) e tt
below-act flags Quits said act h e = subst (λ (o : Option Act). IfSome o (HasFlagBelow (length flags))) e tt
below-act flags SaysNothing said act h e = absurd (cc)
below-act flags (Opens name db) said act h e = absurd (cc)
below-act flags NoMeta said act h e = absurd (cc)

flags-below : (flags : List (List ℕ)) (n : ℕ) (lines : List (List ℕ)) → AreNamed flags (all_say lines) → All (λ (l : ScriptLine). HasFlagBelow (length flags) l.act) (script_from flags n lines)
flags-below flags n [] h = All-nil (λ (l : ScriptLine). HasFlagBelow (length flags) l.act)
flags-below flags n (line ∷ lines) h =
    let P : ScriptLine → Type 0 = λ l. HasFlagBelow (length flags) l.act in
    let rest : All P (script_from flags (n + 1) lines) = flags-below flags (n + 1) lines (named-rest flags (says line) (all_say lines) h) in
    let more : All P (option_to_list (script_line_of flags n line) ++ script_from flags (n + 1) lines)
    = script-cons P flags n line (says line) (script_from flags (n + 1) lines) (λ act e. below-act flags (says line) (all_say lines) act h e) rest in
    elim (cases_Bool (is_opening (says line))) [
      | inl e ↦ rw e (All-nil P)
      | inr e ↦ rw e more
    ]

-- the numbers rise, from one past n on
abbrev RiseAfter : ℕ → List ScriptLine → Type 0
RiseAfter n [] = Unit {0}
RiseAfter n (line ∷ lines) = (n < line.line) × RiseAfter line.line lines

below-first : (n : ℕ) (lines : List ScriptLine) → RiseAfter n lines → IsBelowFirst n lines
below-first n [] h = tt
below-first n (line ∷ lines) h = h.0

rise-after : (n : ℕ) (lines : List ScriptLine) → RiseAfter n lines → Rise lines
rise-after n [] h = tt
rise-after n (line ∷ lines) h = (below-first line.line lines h.1, rise-after line.line lines h.1)

rise-cons : (m n : ℕ) (flags : List (List ℕ)) (line : List ℕ) (said : Says) (rest : List ScriptLine) → m < n → RiseAfter n rest → RiseAfter m rest → RiseAfter m (option_to_list (option_map (script_line n (trimmed line)) (act_of flags said)) ++ rest)
rise-cons m n flags line SaysNothing rest l h k = k
rise-cons m n flags line (Opens name db) rest l h k = k
rise-cons m n flags line NoMeta rest l h k = k
rise-cons m n flags line (Runs run) rest l h k = (l, h)
rise-cons m n flags line (Signals flag) rest l h k = (l, h)
rise-cons m n flags line (Awaits flag) rest l h k = (l, h)
rise-cons m n flags line Quits rest l h k = (l, h)

rising : (flags : List (List ℕ)) (m n : ℕ) (lines : List (List ℕ)) → m < n → RiseAfter m (script_from flags n lines)
rising flags m n [] l = tt
rising flags m n (line ∷ lines) l =
    let after : RiseAfter n (script_from flags (n + 1) lines) = rising flags n (n + 1) lines (omega arith) in
    let before : RiseAfter m (script_from flags (n + 1) lines) = rising flags m (n + 1) lines (omega (arith, l)) in
    elim (cases_Bool (is_opening (says line))) [
      | inl e ↦ rw e tt
      | inr e ↦ rw e (rise-cons m n flags line (says line) (script_from flags (n + 1) lines) l after before)
    ]

-- After a `\quit` a section has nothing more.

quit_at : (said : List Says) (one : Says) → has_quit (said ++ one ∷ []) ≡ cond (is_opening one) false (has_quit said || is_quit one)
quit_at said one = fold_push (λ (quit : Bool) (line : Says). cond (is_opening line) false (quit || is_quit line)) false said one

-- a line after a `\quit`, which is not at fault
quiet : (before : List Says) (one : Says) → has_quit before ≡ true → is_bad_meta before one ≡ false → (is_opening one ≡ true) ⊎ (one ≡ SaysNothing)
quiet before SaysNothing h e = inr refl
quiet before (Opens name db) h e = inl refl
quiet before NoMeta h e = absurd (cc)
quiet before (Runs run) h e = absurd (both_ways (has_quit before) e h)
quiet before (Signals flag) h e = absurd (both_ways (has_quit before) e h)
quiet before (Awaits flag) h e = absurd (both_ways (has_quit before) e h)
quiet before Quits h e = absurd (both_ways (has_quit before) e h)

nothing-after : (flags : List (List ℕ)) (n : ℕ) (before lines : List (List ℕ)) → SoundAfter before lines → has_quit (all_say before) ≡ true → script_from flags n lines ≡ []
nothing-after flags n before [] sound h = refl
nothing-after flags n before (line ∷ lines) sound h =
    let here : IsClean before line = clean before line (sound-first before line lines sound) in
    elim (quiet (all_say before) (says line) h here.meta) [
      | inl e ↦ rw e refl
      | inr e ↦
          let still : has_quit (all_say (before ++ line ∷ [])) ≡ true
          = ap has_quit (said_more before line) ∙ ap (λ (s : Says). has_quit (all_say before ++ s ∷ [])) e ∙ quit_at (all_say before) SaysNothing ∙ or_left (has_quit (all_say before)) false h in
          rw e (nothing-after flags (n + 1) (before ++ line ∷ []) lines (sound-rest before line lines sound) still)
    ]

quits-cons : (flags : List (List ℕ)) (n : ℕ) (line : List ℕ) (said : Says) (rest : List ScriptLine) → (said ≡ Quits → rest ≡ []) → QuitsLast rest
    → QuitsLast (option_to_list (option_map (script_line n (trimmed line)) (act_of flags said)) ++ rest)
quits-cons flags n line SaysNothing rest h k = k
quits-cons flags n line (Opens name db) rest h k = k
quits-cons flags n line NoMeta rest h k = k
quits-cons flags n line (Runs run) rest h k = (λ e. absurd (cc), k)
quits-cons flags n line (Signals flag) rest h k = (λ e. absurd (cc), k)
quits-cons flags n line (Awaits flag) rest h k = (λ e. absurd (cc), k)
quits-cons flags n line Quits rest h k = (λ e. h refl, k)

quits-last : (flags : List (List ℕ)) (n : ℕ) (before lines : List (List ℕ)) → SoundAfter before lines → QuitsLast (script_from flags n lines)
quits-last flags n before [] sound = tt
quits-last flags n before (line ∷ lines) sound =
    let after : SoundAfter (before ++ line ∷ []) lines = sound-rest before line lines sound in
    let rest : QuitsLast (script_from flags (n + 1) lines) = quits-last flags (n + 1) (before ++ line ∷ []) lines after in
    let none : says line ≡ Quits → script_from flags (n + 1) lines ≡ [] = λ e.
    nothing-after flags (n + 1) (before ++ line ∷ []) lines after
    (ap has_quit (said_more before line) ∙ ap (λ (s : Says). has_quit (all_say before ++ s ∷ [])) e ∙ quit_at (all_say before) Quits ∙ or_right (has_quit (all_say before)) true refl) in
    elim (cases_Bool (is_opening (says line))) [
      | inl e ↦ rw e tt
      | inr e ↦ rw e (quits-cons flags n line (says line) (script_from flags (n + 1) lines) none rest)
    ]

-- Names.

label-line : (text : List ℕ) → is_label text ≡ true → IsOneLine text
label-line text h c =
    let P : ℕ → Type 0 = λ b. is_label_byte b ≡ true in
    let all : list_all is_label_byte text ≡ true = (and_parts (nat_le 1 (length text) && nat_le (length text) 63) (list_all is_label_byte text) h).1 in
    let here : is_label_byte 10 ≡ true = All-contains P text 10 (AllPass-from_list_all is_label_byte text all) c in
    absurd (false≢true here)

-- what meta lines name are labels
abbrev HasLabel : Says → Type 0
HasLabel (Opens name db) = is_label name ≡ true
HasLabel (Signals flag) = is_label flag ≡ true
HasLabel (Awaits flag) = is_label flag ≡ true
HasLabel said = Unit {0}

cond_label : (b : Bool) (x y : Says) → (b ≡ true → HasLabel x) → HasLabel y → HasLabel (cond b x y)
cond_label true x y f g = f refl
cond_label false x y f g = g

meta-label : (parts : List (List ℕ)) → HasLabel (meta_says parts)
meta-label [] = tt
meta-label (word ∷ []) = cond_label (bytes_eq word (codes "\\quit")) Quits NoMeta (λ e. tt) tt
meta-label (word ∷ flag ∷ []) =
    cond_label (bytes_eq word (codes "\\signal") && is_label flag) (Signals flag) (cond (bytes_eq word (codes "\\await") && is_label flag) (Awaits flag) NoMeta)
    (λ e. (and_parts (bytes_eq word (codes "\\signal")) (is_label flag) e).1)
    (cond_label (bytes_eq word (codes "\\await") && is_label flag) (Awaits flag) NoMeta (λ e. (and_parts (bytes_eq word (codes "\\await")) (is_label flag) e).1) tt)
meta-label (word ∷ name ∷ digits ∷ []) =
    cond_label (bytes_eq word (codes "\\session") && is_label name && is_database digits) (Opens name (digits_value 10 digits)) NoMeta
    (λ e. (and_parts (bytes_eq word (codes "\\session")) (is_label name) (and_parts (bytes_eq word (codes "\\session") && is_label name) (is_database digits) e).0).1) tt
meta-label (a ∷ b ∷ c ∷ d ∷ parts) = tt

command-label : (run : Command) → HasLabel (command_says run)
command-label command.Empty = tt
command-label other = tt

says-label : (line : List ℕ) → HasLabel (says line)
unfolding says
says-label line = cond_label (begins_meta (trimmed line)) (meta_says (parts_of (trimmed line))) (command_says (reading (trimmed line))) (λ e. meta-label (parts_of (trimmed line))) (command-label (reading (trimmed line)))

-- flags have one line
with-lines : (names : List (List ℕ)) (name : List ℕ) → All IsOneLine names → IsOneLine name → All IsOneLine (with_name names name)
with-lines names name h k = elim (cases_Bool (has_name names name)) [
  | inl e ↦ rw e h
  | inr e ↦ rw e (All-append IsOneLine names (name ∷ []) h (All-cons IsOneLine name [] k (All-nil IsOneLine)))
]

flag-lines : (said : Says) (names : List (List ℕ)) (more : List (List ℕ)) → HasLabel said → All IsOneLine names → ((others : List (List ℕ)) → All IsOneLine others → All IsOneLine (fold with_name others more))
    → All IsOneLine (fold with_name names (option_to_list (named_flag said) ++ more))
flag-lines (Signals flag) names more h k f = f (with_name names flag) (with-lines names flag k (label-line flag h))
flag-lines (Awaits flag) names more h k f = f (with_name names flag) (with-lines names flag k (label-line flag h))
flag-lines SaysNothing names more h k f = f names k
flag-lines (Opens name db) names more h k f = f names k
flag-lines (Runs run) names more h k f = f names k
flag-lines Quits names more h k f = f names k
flag-lines NoMeta names more h k f = f names k

named-cons : (said : Says) (more : List Says) → filter_map named_flag (said ∷ more) ≡ option_to_list (named_flag said) ++ filter_map named_flag more
named-cons SaysNothing more = refl
named-cons (Opens name db) more = refl
named-cons (Runs run) more = refl
named-cons (Signals flag) more = refl
named-cons (Awaits flag) more = refl
named-cons Quits more = refl
named-cons NoMeta more = refl

flags-lines : (names lines : List (List ℕ)) → All IsOneLine names → All IsOneLine (fold with_name names (filter_map named_flag (all_say lines)))
flags-lines names [] h = h
flags-lines names (line ∷ lines) h =
    subst (λ (l : List (List ℕ)). All IsOneLine (fold with_name names l)) (sym (named-cons (says line) (all_say lines)))
    (flag-lines (says line) names (filter_map named_flag (all_say lines)) (says-label line) h (λ others k. flags-lines others lines k))

-- Texts.

-- the lines of an input have no LF
onto-lines : (b : ℕ) (lines : List (List ℕ)) → (b == 10) ≡ false → All IsOneLine lines → All IsOneLine (onto_first b lines)
onto-lines b [] e h = All-cons IsOneLine (b ∷ []) [] (line-cons b [] e none-line) (All-nil IsOneLine)
onto-lines b (line ∷ lines) e h = All-cons IsOneLine (b ∷ line) lines (line-cons b line e (All-head IsOneLine line lines h)) (All-tail IsOneLine line lines h)

pub lines-lack : (input : List ℕ) → All IsOneLine (lines_of input)
lines-lack [] = All-nil IsOneLine
lines-lack (b ∷ bytes) = elim (cases_Bool (b == 10)) [
  | inl e ↦ rw e (All-cons IsOneLine [] (lines_of bytes) none-line (lines-lack bytes))
  | inr e ↦ rw e (onto-lines b (lines_of bytes) e (lines-lack bytes))
]

trimmed-line : (line : List ℕ) → IsOneLine line → IsOneLine (trimmed line)
trimmed-line line h c =
    let parts : IsTextOf line (trimmed line) = is-trimmed line in
    h (subst (λ (l : List ℕ). Contains l 10) (sym parts.whole) (Contains-append_left (parts.before ++ trimmed line) parts.after 10 (Contains-append_right parts.before (trimmed line) 10 c)))

cond_runs : (b : Bool) (x y : Says) (run : Command) → (x ≡ Runs run → ⊥) → (y ≡ Runs run → ⊥) → cond b x y ≡ Runs run → ⊥
cond_runs true x y run f g h = f h
cond_runs false x y run f g h = g h

-- what runs is what the text reads as
command-runs : (c run : Command) → command_says c ≡ Runs run → run ≡ c
command-runs command.Empty run h = absurd (cc)
command-runs other run h = cc

meta-runs : (parts : List (List ℕ)) (run : Command) → meta_says parts ≡ Runs run → ⊥
meta-runs [] run h = absurd (cc)
meta-runs (word ∷ []) run h = cond_runs (bytes_eq word (codes "\\quit")) Quits NoMeta run (λ e. absurd (cc)) (λ e. absurd (cc)) h
meta-runs (word ∷ flag ∷ []) run h =
    cond_runs (bytes_eq word (codes "\\signal") && is_label flag) (Signals flag) (cond (bytes_eq word (codes "\\await") && is_label flag) (Awaits flag) NoMeta) run (λ e. absurd (cc))
    (cond_runs (bytes_eq word (codes "\\await") && is_label flag) (Awaits flag) NoMeta run (λ e. absurd (cc)) (λ e. absurd (cc))) h
meta-runs (word ∷ name ∷ digits ∷ []) run h =
    cond_runs (bytes_eq word (codes "\\session") && is_label name && is_database digits) (Opens name (digits_value 10 digits)) NoMeta run (λ e. absurd (cc)) (λ e. absurd (cc)) h
meta-runs (a ∷ b ∷ c ∷ d ∷ parts) run h = absurd (cc)

text-runs : (text : List ℕ) (run : Command) → text_says text ≡ Runs run → run ≡ reading text
text-runs text run h = elim (cases_Bool (begins_meta text)) [
  | inl e ↦ absurd (meta-runs (parts_of text) run (subst (λ (b : Bool). cond b (meta_says (parts_of text)) (command_says (reading text)) ≡ Runs run) e h))
  | inr e ↦ command-runs (reading text) run (subst (λ (b : Bool). cond b (meta_says (parts_of text)) (command_says (reading text)) ≡ Runs run) e h)
]

runs-reading : (line : List ℕ) (run : Command) → says line ≡ Runs run → run ≡ reading (trimmed line)
unfolding says
runs-reading line run h = text-runs (trimmed line) run h

act-line : (flags : List (List ℕ)) (line : List ℕ) (said : Says) (act : Act) → IsOneLine line → says line ≡ said → act_of flags said ≡ Some act → IsOneLineAct act
act-line flags line (Runs run) act h e a =
    subst (λ (o : Option Act). IfSome o IsOneLineAct) a (subst IsOneLineCommand (sym (runs-reading line run e)) (reads-one_line (trimmed line) (trimmed-line line h)))
act-line flags line (Signals flag) act h e a = subst (λ (o : Option Act). IfSome o IsOneLineAct) a tt
act-line flags line (Awaits flag) act h e a = subst (λ (o : Option Act). IfSome o IsOneLineAct) a tt
act-line flags line Quits act h e a = subst (λ (o : Option Act). IfSome o IsOneLineAct) a tt
act-line flags line SaysNothing act h e a = absurd (cc)
act-line flags line (Opens name db) act h e a = absurd (cc)
act-line flags line NoMeta act h e a = absurd (cc)

script-lines : (flags : List (List ℕ)) (n : ℕ) (lines : List (List ℕ)) → All IsOneLine lines → All (λ (l : ScriptLine). IsOneLine l.text × IsOneLineAct l.act) (script_from flags n lines)
script-lines flags n [] h = All-nil (λ (l : ScriptLine). IsOneLine l.text × IsOneLineAct l.act)
script-lines flags n (line ∷ lines) h =
    let P : ScriptLine → Type 0 = λ l. IsOneLine l.text × IsOneLineAct l.act in
    let one : IsOneLine line = All-head IsOneLine line lines h in
    let rest : All P (script_from flags (n + 1) lines) = script-lines flags (n + 1) lines (All-tail IsOneLine line lines h) in
    let more : All P (option_to_list (script_line_of flags n line) ++ script_from flags (n + 1) lines)
    = script-cons P flags n line (says line) (script_from flags (n + 1) lines) (λ act e. (trimmed-line line one, act-line flags line (says line) act one refl e)) rest in
    elim (cases_Bool (is_opening (says line))) [
      | inl e ↦ rw e (All-nil P)
      | inr e ↦ rw e more
    ]

-- The sections.

-- what sound lines give, after those before them
record AreGiven (flags before lines : List (List ℕ)) : Type 0 where
  sound : SoundAfter before lines
  named : AreNamed flags (all_say lines)
  one_line : All IsOneLine lines

given-rest : (flags before : List (List ℕ)) (line : List ℕ) (lines : List (List ℕ)) → AreGiven flags before (line ∷ lines) → AreGiven flags (before ++ line ∷ []) lines
given-rest flags before line lines h = record {
  sound = sound-rest before line lines h.sound;
  named = named-rest flags (says line) (all_say lines) h.named;
  one_line = All-tail IsOneLine line lines h.one_line;
}

section-sound : (flags before lines : List (List ℕ)) (number n : ℕ) (name : List ℕ) (db : ℕ) → 0 < n → is_label name ≡ true → AreGiven flags before lines
    → IsSoundSection (length flags) (section number name db (script_from flags n lines))
section-sound flags before lines number n name db some label h = record {
  flags_known = flags-below flags n lines h.named;
  rising = rise-after 0 (script_from flags n lines) (rising flags 0 n lines some);
  quits_last = quits-last flags n before lines h.sound;
  counted = refl;
  one_line_name = label-line name label;
  one_line_texts = script-lines flags n lines h.one_line;
}

section_at-sound : (flags before lines : List (List ℕ)) (number n : ℕ) (said : Says) (rest : List Section) → 0 < n → HasLabel said → AreGiven flags before lines
    → All (IsSoundSection (length flags)) rest → All (IsSoundSection (length flags)) (section_at flags number n said lines ++ rest)
section_at-sound flags before lines number n (Opens name db) rest some label h k =
    All-cons (IsSoundSection (length flags)) (section number name db (script_from flags n lines)) rest (section-sound flags before lines number n name db some label h) k
section_at-sound flags before lines number n SaysNothing rest some label h k = k
section_at-sound flags before lines number n (Runs run) rest some label h k = k
section_at-sound flags before lines number n (Signals flag) rest some label h k = k
section_at-sound flags before lines number n (Awaits flag) rest some label h k = k
section_at-sound flags before lines number n Quits rest some label h k = k
section_at-sound flags before lines number n NoMeta rest some label h k = k

sections-sound : (flags before lines : List (List ℕ)) (number n : ℕ) → AreGiven flags before lines → All (IsSoundSection (length flags)) (sections_from flags number n lines)
sections-sound flags before [] number n h = All-nil (IsSoundSection (length flags))
sections-sound flags before (line ∷ lines) number n h =
    let here : List Section = section_at flags number (n + 1) (says line) lines in
    let rest : AreGiven flags (before ++ line ∷ []) lines = given-rest flags before line lines h in
    section_at-sound flags (before ++ line ∷ []) lines number (n + 1) (says line) (sections_from flags (number + length here) (n + 1) lines) (omega arith) (says-label line) rest
    (sections-sound flags (before ++ line ∷ []) lines (number + length here) (n + 1) rest)

-- the scenario of sound lines with a section
sound-scenario : (lines : List (List ℕ)) → HaveNoFault lines → All IsOneLine lines → has_section (all_say lines) ≡ true → IsSound (scenario_of lines)
unfolding scenario_of
sound-scenario lines sound one_line some =
    let said : List Says = all_say lines in
    let flags : List (List ℕ) = flags_of said in
    let within : AreFew said = few said (few-after [] lines sound refl) in
    let count : length (sections_from flags 1 1 lines) ≡ length (section_names said) = sections-counted flags 1 1 lines in
    let names : 0 < length (section_names said) = some_named said some in
    let notes : note_lines_of (script_from flags 1 lines) + notes_in (sections_from flags 1 1 lines) ≡ count_by notifies said = notes-counted flags 1 1 lines in
    let few_sections : length (section_names said) ≤ SECTIONS_MAX = within.sections in
    let few_notes : count_by notifies said ≤ NOTE_LINES_MAX = within.notes in
    record {
      some = omega (arith, count, names);
      few = omega (arith, count, few_sections);
      numbered = numbered flags 1 1 lines;
      few_flags = within.flags;
      one_line_flags = flags-lines [] lines (All-nil IsOneLine);
      sections = sections-sound flags [] lines 1 1 (record { sound = sound; named = flags-named [] said; one_line = one_line });
      few_note_lines = omega (arith, notes, few_notes);
    }

readings-sound : (input : List ℕ) (read : Result Scenario ScenarioFault) → ReadsAsScenario input read → IfOk read IsSound
readings-sound input _ (Large l) = tt
readings-sound input _ (Faulty l before line rest e sound found here) = tt
readings-sound input _ (Sectionless l sound e) = tt
readings-sound input _ (Unsignalled l sound e n f) = tt
readings-sound input _ (Faultless l sound e f) = sound-scenario (lines_of input) sound (lines-lack input) e

-- an input that reads as a scenario reads as a sound one
pub only-sound : (input : List ℕ) (scenario : Scenario) → ReadsAsScenario input (Ok scenario) → IsSound scenario
only-sound input scenario h = readings-sound input (Ok scenario) h
