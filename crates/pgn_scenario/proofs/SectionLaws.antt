-- The code's steps make the scenario that the definitions have.
use Rattle.std.proofs.Common.{◌≡◌, ℕ, ◌+◌, Bool, true, false, cond, not, ◌||◌, ◌==◌, inl, inr, List, [], ◌∷◌, ◌++◌, length, filter_map, Option, None, Some, Result, Ok, Err, sym, ap, ◌∙◌, refl, subst, arith, append_assoc, length-append, bytes_eq, is_some}
use Rattle.std.specs.Prelude.{nat_lt, fold, option_map}
use Rattle.std.specs.List.{list_any}
use Rattle.std.specs.Option.{option_to_list}
use Rattle.std.specs.Str.{is_utf8}
use Rattle.std.specs.Str.Lossy.{utf8_valid_len}
use Rattle.std.proofs.lemmas.Bool.{cases_Bool, or_left, or_right, false≢true}
use Rattle.std.proofs.lemmas.List.{append-nil}
use Rattle.std.proofs.lemmas.List.Sums.{sum_by-append}
use Rattle.std.proofs.lemmas.List.Folds.{list_any-append}
use Rattle.std.proofs.lemmas.Slice.Eq.{bytes_eq-Decides}
use Rattle.pgn_base.specs.declared.limits.TheConstants.{FLAGS_MAX, LINE_BYTES_MAX, NOTE_LINES_MAX, SECTIONS_MAX}
use Rattle.pgn_base.specs.Names.{has_name}
use Rattle.pgn_language.specs.declared.scenario.Act.{Act}
use Rattle.pgn_language.specs.declared.scenario.Act.TheVariants.{Run, Signal, Await, Quit}
use Rattle.pgn_language.specs.declared.scenario.ScriptLine.{ScriptLine}
use Rattle.pgn_language.specs.declared.scenario.Section.{Section}
use Rattle.pgn_language.specs.declared.scenario.ScenarioFault.{ScenarioFault}
use Rattle.pgn_language.specs.declared.scenario.ScenarioFault.TheVariants as fault
use Rattle.pgn_language.specs.Lines.{Says, SaysNothing, Opens, Runs, Signals, Awaits, Quits, NoMeta, says, trimmed}
use Rattle.pgn_language.specs.Inputs.{all_say, is_opening, named_flag, with_name, flag_number, act_of, script_line, script_from, is_note_act, note_lines_of, section, section_at, sections_from}
use Rattle.pgn_scenario.specs.Flags.{signalling, awaiting}
use Rattle.pgn_scenario.specs.Steps.{State, note_of, with_line, acted, opened, unless_many, opening, within, added, after_ok, passed, step, steps}

-- what a line that says this makes where it has no fault
abbrev pub made : State → List ℕ → Says → State
made s text SaysNothing = s
made s text (Opens name db) = opened s name db
made s text (Runs command) = acted s text (Run command)
made s text (Signals flag) = acted (record s { flags = signalling s.flags flag }) text (Signal (flag_number s.flags.names flag))
made s text (Awaits flag) = acted (record s { flags = awaiting s.flags flag s.line }) text (Await (flag_number s.flags.names flag))
made s text Quits = record (acted s text Quit) { quit = true }
made s text NoMeta = s

within_makes : (s next t : State) (many : Bool) → within s (unless_many s many next) ≡ Ok t → t ≡ next
within_makes s next t many h = go s.quit (is_some s.part) many h
  where
    go : (quit some many : Bool) → cond quit (Err (fault.BadMeta s.line)) (cond some (cond many (Err (fault.TooMany s.line)) (Ok next)) (Err (fault.NoSession s.line))) ≡ Ok t → t ≡ next
    go true some many e = absurd (cc)
    go false false many e = absurd (cc)
    go false true true e = absurd (cc)
    go false true false e = cc

opening_makes : (s t : State) (name : List ℕ) (db : ℕ) → opening s name db ≡ Ok t → t ≡ opened s name db
opening_makes s t name db h = go (has_name s.names name) (nat_lt SECTIONS_MAX (length s.names + 1)) h
  where
    go : (same many : Bool) → cond same (Err (fault.SameName s.line)) (cond many (Err (fault.TooMany s.line)) (Ok (opened s name db))) ≡ Ok t → t ≡ opened s name db
    go true many e = absurd (cc)
    go false true e = absurd (cc)
    go false false e = cc

added_makes : (s t : State) (text : List ℕ) (one : Says) → added s text one ≡ Ok t → t ≡ made s text one
added_makes s t text SaysNothing h = cc
added_makes s t text (Opens name db) h = opening_makes s t name db h
added_makes s t text (Runs command) h = within_makes s (acted s text (Run command)) t (nat_lt NOTE_LINES_MAX (s.notes + note_of (Run command))) h
added_makes s t text (Signals flag) h =
    within_makes s (acted (record s { flags = signalling s.flags flag }) text (Signal (flag_number s.flags.names flag))) t (nat_lt FLAGS_MAX (length (with_name s.flags.names flag))) h
added_makes s t text (Awaits flag) h =
    within_makes s (acted (record s { flags = awaiting s.flags flag s.line }) text (Await (flag_number s.flags.names flag))) t (nat_lt FLAGS_MAX (length (with_name s.flags.names flag))) h
added_makes s t text Quits h = within_makes s (record (acted s text Quit) { quit = true }) t false h
added_makes s t text NoMeta h = absurd (cc)

-- what a line makes where it has no fault
abbrev pub next : State → List ℕ → State
next s line = passed (length line) (made s (trimmed line) (says line))

ok_after : (f : State → State) (made : Result State ScenarioFault) (t : State) → after_ok f made ≡ Ok t → (u : State) × (made ≡ Ok u) × (t ≡ f u)
ok_after f (Ok u) t h = (u, refl, cc)
ok_after f (Err found) t h = absurd (cc)

past_tests : (long bad nul : Bool) (a b c : ScenarioFault) (made : Result State ScenarioFault) (t : State) → cond long (Err a) (cond bad (Err b) (cond nul (Err c) made)) ≡ Ok t → made ≡ Ok t
past_tests true bad nul a b c made t h = absurd (cc)
past_tests false true nul a b c made t h = absurd (cc)
past_tests false false true a b c made t h = absurd (cc)
past_tests false false false a b c made t h = h

step_makes : (s t : State) (line : List ℕ) → step s line ≡ Ok t → t ≡ next s line
step_makes s t line h =
    let past : after_ok (passed (length line)) (added s (trimmed line) (says line)) ≡ Ok t
    = past_tests (nat_lt LINE_BYTES_MAX (length line)) (not (is_utf8 line)) (list_any (λ byte. byte == 0) line)
    (fault.LineTooLong s.line) (fault.NotUtf8 (s.at + utf8_valid_len line)) (fault.NulByte s.line) (after_ok (passed (length line)) (added s (trimmed line) (says line))) t h in
    let before : (u : State) × (added s (trimmed line) (says line) ≡ Ok u) × (t ≡ passed (length line) u) = ok_after (passed (length line)) (added s (trimmed line) (says line)) t past in
    before.2 ∙ ap (passed (length line)) (added_makes s before.0 (trimmed line) (says line) before.1)

-- A fact of the state and the lines that are left, which each line keeps.
pub first_step : (s t : State) (line : List ℕ) (lines : List (List ℕ)) → steps s (line ∷ lines) ≡ Ok t → steps (next s line) lines ≡ Ok t
first_step s t line lines h = go (step s line) refl h
  where
    go : (r : Result State ScenarioFault) → step s line ≡ r → elim r as (λ _. Result State ScenarioFault) [ Ok u ↦ steps u lines | Err one ↦ Err one ] ≡ Ok t → steps (next s line) lines ≡ Ok t
    go (Ok u) e k = ap (λ (v : State). steps v lines) (sym (step_makes s u line e)) ∙ k
    go (Err one) e k = absurd (cc)

-- Flags.

-- the names that lines add to the flags
abbrev pub more_flags : List (List ℕ) → List (List ℕ) → List (List ℕ)
more_flags names lines = fold with_name names (filter_map named_flag (all_say lines))

flags_next : (s : State) (text : List ℕ) (one : Says) (more : List Says) → fold with_name (made s text one).flags.names (filter_map named_flag more) ≡ fold with_name s.flags.names (filter_map named_flag (one ∷ more))
flags_next s text SaysNothing more = refl
flags_next s text (Opens name db) more = refl
flags_next s text (Runs command) more = refl
flags_next s text (Signals flag) more = refl
flags_next s text (Awaits flag) more = refl
flags_next s text Quits more = refl
flags_next s text NoMeta more = refl

-- the flags behind lines are those before them and the new ones that they name
pub flags_made : (lines : List (List ℕ)) (s t : State) → steps s lines ≡ Ok t → t.flags.names ≡ more_flags s.flags.names lines
flags_made [] s t h = let same : s ≡ t = cc in ap (λ (u : State). u.flags.names) (sym same)
flags_made (line ∷ lines) s t h = flags_made lines (next s line) t (first_step s t line lines h) ∙ flags_next s (trimmed line) (says line) (all_say lines)

-- a name that is there keeps its place as names are added
place_append : (names more : List (List ℕ)) (flag : List ℕ) → has_name names flag ≡ true → flag_number (names ++ more) flag ≡ flag_number names flag
place_append [] more flag h = absurd (false≢true h)
place_append (name ∷ names) more flag h = elim (cases_Bool (bytes_eq flag name)) [
  | inl e ↦ rw e refl
  | inr e ↦
      let rest : flag_number (names ++ more) flag ≡ flag_number names flag = place_append names more flag (subst (λ (b : Bool). b || has_name names flag ≡ true) e h) in
      rw e (ap (λ (n : ℕ). 1 + n) rest)
]

place_with : (names : List (List ℕ)) (other flag : List ℕ) → has_name names flag ≡ true → flag_number (with_name names other) flag ≡ flag_number names flag
place_with names other flag h = elim (cases_Bool (has_name names other)) [
  | inl e ↦ rw e refl
  | inr e ↦ rw e (place_append names (other ∷ []) flag h)
]

kept_with : (names : List (List ℕ)) (other flag : List ℕ) → has_name names flag ≡ true → has_name (with_name names other) flag ≡ true
kept_with names other flag h = elim (cases_Bool (has_name names other)) [
  | inl e ↦ rw e h
  | inr e ↦ rw e (list_any-append (bytes_eq flag) names (other ∷ []) ∙ or_left (list_any (bytes_eq flag) names) (list_any (bytes_eq flag) (other ∷ [])) h)
]

place_more : (more names : List (List ℕ)) (flag : List ℕ) → has_name names flag ≡ true → flag_number (fold with_name names more) flag ≡ flag_number names flag
place_more [] names flag h = refl
place_more (other ∷ more) names flag h = place_more more (with_name names other) flag (kept_with names other flag h) ∙ place_with names other flag h

own : (flag : List ℕ) → bytes_eq flag flag ≡ true
own flag = (bytes_eq-Decides flag flag).1 refl

with_own : (names : List (List ℕ)) (flag : List ℕ) → has_name (with_name names flag) flag ≡ true
with_own names flag = elim (cases_Bool (has_name names flag)) [
  | inl e ↦ rw e e
  | inr e ↦ rw e (list_any-append (bytes_eq flag) names (flag ∷ []) ∙ or_right (list_any (bytes_eq flag) names) (list_any (bytes_eq flag) (flag ∷ [])) (or_left (bytes_eq flag flag) false (own flag)))
]

-- a new name stands where one that is not there is looked for
place_new : (names : List (List ℕ)) (flag : List ℕ) → has_name names flag ≡ false → flag_number (names ++ flag ∷ []) flag ≡ flag_number names flag
place_new [] flag h = rw (own flag) refl
place_new (name ∷ names) flag h = elim (cases_Bool (bytes_eq flag name)) [
  | inl e ↦ rw e refl
  | inr e ↦
      let rest : flag_number (names ++ flag ∷ []) flag ≡ flag_number names flag = place_new names flag (subst (λ (b : Bool). b || has_name names flag ≡ false) e h) in
      rw e (ap (λ (n : ℕ). 1 + n) rest)
]

place_own : (names : List (List ℕ)) (flag : List ℕ) → flag_number (with_name names flag) flag ≡ flag_number names flag
place_own names flag = elim (cases_Bool (has_name names flag)) [
  | inl e ↦ rw e refl
  | inr e ↦ rw e (place_new names flag e)
]

-- so a flag's number is its number among all flags
number_stays : (names : List (List ℕ)) (flag : List ℕ) (more : List (List ℕ)) → flag_number names flag ≡ flag_number (fold with_name (with_name names flag) more) flag
number_stays names flag more = sym (place_more more (with_name names flag) flag (with_own names flag) ∙ place_own names flag)

-- Sections.

-- a section with these lines at its end
abbrev pub extended : List ScriptLine → Section → Section
extended script part = record part { lines = part.lines ++ script; note_lines = part.note_lines + note_lines_of script }

-- what the sections so far are together with the lines that are left
abbrev pub completed : List Section → Option Section → List (List ℕ) → List (List ℕ) → ℕ → List (List ℕ) → List Section
completed done part names flags n lines = done ++ option_to_list (option_map (extended (script_from flags n lines)) part) ++ sections_from flags (length names + 1) n lines

extended_none : (part : Section) → extended [] part ≡ part
extended_none part = let count : part.note_lines + 0 ≡ part.note_lines = omega arith in
    ap (λ (l : List ScriptLine). let x : Section = record part { lines = l; note_lines = part.note_lines + 0 } in x) (append-nil part.lines)
    ∙ ap (λ (n : ℕ). let x : Section = record part { note_lines = n } in x) count

all_extended_none : (part : Option Section) → option_map (extended []) part ≡ part
all_extended_none None = refl
all_extended_none (Some part) = ap (λ (p : Section). Some p) (extended_none part)

extended_new : (number : ℕ) (name : List ℕ) (db : ℕ) (script : List ScriptLine) → extended script (section number name db []) ≡ section number name db script
extended_new number name db script = let count : 0 + note_lines_of script ≡ note_lines_of script = omega arith in
    ap (λ (n : ℕ). let x : Section = record { no = number; name = name; db = db; lines = script; note_lines = n } in x) count

extended_line : (line : ScriptLine) (script : List ScriptLine) (part : Section) → extended script (with_line line part) ≡ extended (line ∷ script) part
extended_line line script part =
    let sum : note_lines_of (line ∷ script) ≡ note_lines_of (line ∷ []) + note_lines_of script = sum_by-append (λ (l : ScriptLine). cond (is_note_act l.act) 1 0) (line ∷ []) script in
    let one : note_lines_of (line ∷ []) ≡ note_of line.act = omega arith in
    let count : part.note_lines + note_of line.act + note_lines_of script ≡ part.note_lines + note_lines_of (line ∷ script) = omega (arith, sum, one) in
    ap (λ (l : List ScriptLine). let x : Section = record part { lines = l; note_lines = part.note_lines + note_of line.act + note_lines_of script } in x) (append_assoc part.lines (line ∷ []) script)
    ∙ ap (λ (n : ℕ). let x : Section = record part { lines = part.lines ++ line ∷ script; note_lines = n } in x) count

all_extended_line : (line : ScriptLine) (script : List ScriptLine) (part : Option Section) → option_map (extended script) (option_map (with_line line) part) ≡ option_map (extended (line ∷ script)) part
all_extended_line line script None = refl
all_extended_line line script (Some part) = ap (λ (p : Section). Some p) (extended_line line script part)

-- what the lines that are left add to the sections, where the first of them says this
abbrev script_with : List (List ℕ) → ℕ → List ℕ → Says → List (List ℕ) → List ScriptLine
script_with flags n text one lines = cond (is_opening one) [] (option_to_list (option_map (script_line n text) (act_of flags one)) ++ script_from flags (n + 1) lines)

abbrev sections_with : List (List ℕ) → ℕ → ℕ → Says → List (List ℕ) → List Section
sections_with flags number n one lines = section_at flags number (n + 1) one lines ++ sections_from flags (number + length (section_at flags number (n + 1) one lines)) (n + 1) lines

abbrev completed_with : State → List (List ℕ) → List ℕ → Says → List (List ℕ) → List Section
completed_with s flags text one lines = s.done ++ option_to_list (option_map (extended (script_with flags s.line text one lines)) s.part) ++ sections_with flags (length s.names + 1) s.line one lines

same_number : (flags : List (List ℕ)) (number n : ℕ) (lines : List (List ℕ)) → sections_from flags number n lines ≡ sections_from flags (number + 0) n lines
same_number flags number n lines = let same : number ≡ number + 0 = omega arith in ap (λ (k : ℕ). sections_from flags k n lines) same

completes_act : (s : State) (flags : List (List ℕ)) (text : List ℕ) (act : Act) (lines : List (List ℕ))
    → completed s.done (option_map (with_line (script_line s.line text act)) s.part) s.names flags (s.line + 1) lines
    ≡ s.done ++ option_to_list (option_map (extended (script_line s.line text act ∷ script_from flags (s.line + 1) lines)) s.part) ++ sections_from flags (length s.names + 1 + 0) (s.line + 1) lines
completes_act s flags text act lines =
    ap (λ (p : Option Section). s.done ++ option_to_list p ++ sections_from flags (length s.names + 1) (s.line + 1) lines) (all_extended_line (script_line s.line text act) (script_from flags (s.line + 1) lines) s.part)
    ∙ ap (λ (l : List Section). s.done ++ option_to_list (option_map (extended (script_line s.line text act ∷ script_from flags (s.line + 1) lines)) s.part) ++ l) (same_number flags (length s.names + 1) (s.line + 1) lines)

completes_nothing : (s : State) (flags : List (List ℕ)) (lines : List (List ℕ))
    → completed s.done s.part s.names flags (s.line + 1) lines ≡ s.done ++ option_to_list (option_map (extended (script_from flags (s.line + 1) lines)) s.part) ++ sections_from flags (length s.names + 1 + 0) (s.line + 1) lines
completes_nothing s flags lines =
    ap (λ (l : List Section). s.done ++ option_to_list (option_map (extended (script_from flags (s.line + 1) lines)) s.part) ++ l) (same_number flags (length s.names + 1) (s.line + 1) lines)

completes_opening : (s : State) (flags : List (List ℕ)) (text name : List ℕ) (db : ℕ) (lines : List (List ℕ))
    → completed (s.done ++ option_to_list s.part) (Some (section (length s.names + 1) name db [])) (s.names ++ name ∷ []) flags (s.line + 1) lines ≡ completed_with s flags text (Opens name db) lines
completes_opening s flags text name db lines =
    let number : ℕ = length s.names + 1 in
    let script : List ScriptLine = script_from flags (s.line + 1) lines in
    let rest : List Section = sections_from flags (number + 1) (s.line + 1) lines in
    let count : length (s.names ++ name ∷ []) + 1 ≡ number + 1 = ap (λ (n : ℕ). n + 1) (length-append s.names (name ∷ [])) in
    ap (λ (k : ℕ). s.done ++ option_to_list s.part ++ extended script (section number name db []) ∷ [] ++ sections_from flags k (s.line + 1) lines) count
    ∙ ap (λ (p : Section). s.done ++ option_to_list s.part ++ p ∷ [] ++ rest) (extended_new number name db script)
    ∙ append_assoc (s.done ++ option_to_list s.part) (section number name db script ∷ []) rest
    ∙ ap (λ (p : Option Section). s.done ++ option_to_list p ++ (section number name db script ∷ rest)) (sym (all_extended_none s.part))

-- the act of a line, by the flags of all lines
act_with : (names flags more : List (List ℕ)) (flag : List ℕ) → flags ≡ fold with_name (with_name names flag) more → flag_number names flag ≡ flag_number flags flag
act_with names flags more flag e = number_stays names flag more ∙ ap (λ (l : List (List ℕ)). flag_number l flag) (sym e)

completes : (s : State) (flags : List (List ℕ)) (text : List ℕ) (one : Says) (lines : List (List ℕ)) → flags ≡ fold with_name s.flags.names (filter_map named_flag (one ∷ all_say lines))
    → completed (made s text one).done (made s text one).part (made s text one).names flags (s.line + 1) lines ≡ completed_with s flags text one lines
completes s flags text SaysNothing lines e = completes_nothing s flags lines
completes s flags text NoMeta lines e = completes_nothing s flags lines
completes s flags text (Opens name db) lines e = completes_opening s flags text name db lines
completes s flags text (Runs command) lines e = completes_act s flags text (Run command) lines
completes s flags text Quits lines e = completes_act s flags text Quit lines
completes s flags text (Signals flag) lines e =
    completes_act s flags text (Signal (flag_number s.flags.names flag)) lines
    ∙ ap (λ (n : ℕ). s.done ++ option_to_list (option_map (extended (script_line s.line text (Signal n) ∷ script_from flags (s.line + 1) lines)) s.part) ++ sections_from flags (length s.names + 1 + 0) (s.line + 1) lines)
    (act_with s.flags.names flags (filter_map named_flag (all_say lines)) flag e)
completes s flags text (Awaits flag) lines e =
    completes_act s flags text (Await (flag_number s.flags.names flag)) lines
    ∙ ap (λ (n : ℕ). s.done ++ option_to_list (option_map (extended (script_line s.line text (Await n) ∷ script_from flags (s.line + 1) lines)) s.part) ++ sections_from flags (length s.names + 1 + 0) (s.line + 1) lines)
    (act_with s.flags.names flags (filter_map named_flag (all_say lines)) flag e)

-- what a line says leaves the count of lines as it is
pub same_line : (s : State) (text : List ℕ) (one : Says) → (made s text one).line ≡ s.line
same_line s text SaysNothing = refl
same_line s text (Opens name db) = refl
same_line s text (Runs command) = refl
same_line s text (Signals flag) = refl
same_line s text (Awaits flag) = refl
same_line s text Quits = refl
same_line s text NoMeta = refl

-- the sections behind lines are those before them and the ones that the lines begin
pub sections_made : (lines : List (List ℕ)) (s t : State) (flags : List (List ℕ)) → steps s lines ≡ Ok t → flags ≡ more_flags s.flags.names lines
    → completed s.done s.part s.names flags s.line lines ≡ t.done ++ option_to_list t.part
sections_made [] s t flags h e =
    let same : s ≡ t = cc in
    append-nil (s.done ++ option_to_list (option_map (extended []) s.part)) ∙ ap (λ (p : Option Section). s.done ++ option_to_list p) (all_extended_none s.part) ∙ ap (λ (u : State). u.done ++ option_to_list u.part) same
sections_made (line ∷ lines) s t flags h e =
    let one : Says = says line in
    let text : List ℕ = trimmed line in
    let u : State = made s text one in
    sym (completes s flags text one lines e)
    ∙ ap (λ (n : ℕ). completed u.done u.part u.names flags (n + 1) lines) (sym (same_line s text one))
    ∙ sections_made lines (next s line) t flags (first_step s t line lines h) (e ∙ sym (flags_next s text one (all_say lines)))
