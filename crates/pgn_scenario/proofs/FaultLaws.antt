-- The code's steps find the faults that the definitions have.
use Rattle.std.proofs.Common.{◌≡◌, ℕ, ◌+◌, Bool, true, false, cond, not, ◌||◌, ◌==◌, List, [], ◌∷◌, ◌++◌, length, filter_map, Option, None, Some, Result, Ok, Err, MatchResult, sym, ap, ◌∙◌, refl, subst, arith, append_assoc, length-append}
use Rattle.std.specs.Prelude.{nat_lt, count_by, fold, option_map, is_some}
use Rattle.std.specs.List.{list_any}
use Rattle.std.specs.Str.{is_utf8}
use Rattle.std.specs.Str.Lossy.{utf8_valid_len}
use Rattle.std.proofs.lemmas.List.{append-nil, map-append}
use Rattle.std.proofs.lemmas.List.Sums.{fold-append, fold_push, sum_by_push}
use Rattle.std.proofs.lemmas.List.Folds.{list_any-append}
use Rattle.std.proofs.lemmas.List.Elements.{filter_map-append}
use Rattle.pgn_base.specs.declared.limits.TheConstants.{FLAGS_MAX, LINE_BYTES_MAX, NOTE_LINES_MAX, SECTIONS_MAX}
use Rattle.pgn_base.specs.Names.{has_name}
use Rattle.pgn_base.specs.declared.command.Command.{Command}
use Rattle.pgn_language.specs.declared.scenario.Act.TheVariants.{Run, Signal, Await, Quit}
use Rattle.pgn_language.specs.declared.scenario.ScenarioFault.{ScenarioFault}
use Rattle.pgn_language.specs.declared.scenario.ScenarioFault.TheVariants as fault
use Rattle.pgn_language.specs.Lines.{Says, SaysNothing, Opens, Runs, Signals, Awaits, Quits, NoMeta, says, trimmed}
use Rattle.pgn_language.specs.Inputs.{all_say, section_names, flags_of, notifies, has_quit, has_section, is_opening, is_quit, opened_name, named_flag, with_name, line_number, line_start, are_too_many, fault_said, fault_of, flag_number, script_line}
use Rattle.pgn_language.specs.laws.Inputs.{first_fault}
use Rattle.pgn_scenario.specs.Flags.{signalling, awaiting}
use Rattle.pgn_scenario.specs.Steps.{State, at_start, with_line, acted, opened, unless_many, opening, within, added, after_ok, passed, step, steps}

-- what the state knows of what was said
pub record Tells (before : List Says) (s : State) : Type 0 where
  pub names : s.names ≡ section_names before
  pub flags : s.flags.names ≡ flags_of before
  pub notes : s.notes ≡ count_by notifies before
  pub quit : s.quit ≡ has_quit before
  pub part : is_some s.part ≡ has_section before
  pub few : are_too_many before ≡ false

-- what one more line adds to the names, to the flags and to the lines that notify
abbrev names_with : State → Says → List (List ℕ)
names_with s one = s.names ++ filter_map opened_name (one ∷ [])

abbrev flags_with : State → Says → List (List ℕ)
flags_with s one = fold with_name s.flags.names (filter_map named_flag (one ∷ []))

abbrev notes_with : State → Says → ℕ
notes_with s one = s.notes + cond (notifies one) 1 0

abbrev many_with : State → Says → Bool
many_with s one = nat_lt SECTIONS_MAX (length (names_with s one)) || nat_lt FLAGS_MAX (length (flags_with s one)) || nat_lt NOTE_LINES_MAX (notes_with s one)

names_more : (before : List Says) (one : Says) (s : State) → Tells before s → names_with s one ≡ section_names (before ++ one ∷ [])
names_more before one s h = ap (λ (l : List (List ℕ)). l ++ filter_map opened_name (one ∷ [])) h.names ∙ sym (filter_map-append opened_name before (one ∷ []))

flags_more : (before : List Says) (one : Says) (s : State) → Tells before s → flags_with s one ≡ flags_of (before ++ one ∷ [])
flags_more before one s h = ap (λ (l : List (List ℕ)). fold with_name l (filter_map named_flag (one ∷ []))) h.flags
    ∙ sym (fold-append with_name [] (filter_map named_flag before) (filter_map named_flag (one ∷ [])))
    ∙ ap (fold with_name []) (sym (filter_map-append named_flag before (one ∷ [])))

notes_more : (before : List Says) (one : Says) (s : State) → Tells before s → notes_with s one ≡ count_by notifies (before ++ one ∷ [])
notes_more before one s h = ap (λ (n : ℕ). n + cond (notifies one) 1 0) h.notes ∙ sym (sum_by_push (λ (said : Says). cond (notifies said) 1 0) before one)

many_more : (before : List Says) (one : Says) (s : State) → Tells before s → many_with s one ≡ are_too_many (before ++ one ∷ [])
many_more before one s h =
    ap (λ (l : List (List ℕ)). nat_lt SECTIONS_MAX (length l) || nat_lt FLAGS_MAX (length (flags_with s one)) || nat_lt NOTE_LINES_MAX (notes_with s one)) (names_more before one s h)
    ∙ ap (λ (l : List (List ℕ)). nat_lt SECTIONS_MAX (length (section_names (before ++ one ∷ []))) || nat_lt FLAGS_MAX (length l) || nat_lt NOTE_LINES_MAX (notes_with s one)) (flags_more before one s h)
    ∙ ap (λ (n : ℕ). nat_lt SECTIONS_MAX (length (section_names (before ++ one ∷ []))) || nat_lt FLAGS_MAX (length (flags_of (before ++ one ∷ []))) || nat_lt NOTE_LINES_MAX n) (notes_more before one s h)

-- what is not too many
record AreFew (s : State) : Type 0 where
  names : nat_lt SECTIONS_MAX (length s.names) ≡ false
  flags : nat_lt FLAGS_MAX (length s.flags.names) ≡ false
  notes : nat_lt NOTE_LINES_MAX s.notes ≡ false

none_of : (a b c : Bool) → (a || b || c) ≡ false → (a ≡ false) × (b ≡ false) × (c ≡ false)
none_of true true c h = absurd (cc)
none_of true false c h = absurd (cc)
none_of false true c h = absurd (cc)
none_of false false true h = absurd (cc)
none_of false false false h = (refl, refl, refl)

are_few : (before : List Says) (s : State) → Tells before s → AreFew s
are_few before s h =
    let parts : (nat_lt SECTIONS_MAX (length (section_names before)) ≡ false) × (nat_lt FLAGS_MAX (length (flags_of before)) ≡ false) × (nat_lt NOTE_LINES_MAX (count_by notifies before) ≡ false)
    = none_of (nat_lt SECTIONS_MAX (length (section_names before))) (nat_lt FLAGS_MAX (length (flags_of before))) (nat_lt NOTE_LINES_MAX (count_by notifies before)) h.few in
    record {
      names = ap (λ (l : List (List ℕ)). nat_lt SECTIONS_MAX (length l)) h.names ∙ parts.0;
      flags = ap (λ (l : List (List ℕ)). nat_lt FLAGS_MAX (length l)) h.flags ∙ parts.1;
      notes = ap (λ (n : ℕ). nat_lt NOTE_LINES_MAX n) h.notes ∙ parts.2;
    }

first_alone : (a b c : Bool) → b ≡ false → c ≡ false → (a || b || c) ≡ a
first_alone true false false p q = refl
first_alone false false false p q = refl
first_alone a true c p q = absurd (cc)
first_alone a false true p q = absurd (cc)

second_alone : (a b c : Bool) → a ≡ false → c ≡ false → (a || b || c) ≡ b
second_alone false true false p q = refl
second_alone false false false p q = refl
second_alone true b c p q = absurd (cc)
second_alone false b true p q = absurd (cc)

third_alone : (a b c : Bool) → a ≡ false → b ≡ false → (a || b || c) ≡ c
third_alone false false c p q = refl
third_alone true b c p q = absurd (cc)
third_alone false true c p q = absurd (cc)

no_more_names : (s : State) → AreFew s → nat_lt SECTIONS_MAX (length (s.names ++ [])) ≡ false
no_more_names s h = ap (λ (l : List (List ℕ)). nat_lt SECTIONS_MAX (length l)) (append-nil s.names) ∙ h.names

no_more_notes : (s : State) → AreFew s → nat_lt NOTE_LINES_MAX (s.notes + 0) ≡ false
no_more_notes s h = let same : s.notes + 0 ≡ s.notes = omega arith in ap (λ (n : ℕ). nat_lt NOTE_LINES_MAX n) same ∙ h.notes

-- what is said makes too many exactly where the code's one test says so
abbrev tested : State → Says → Bool
tested s SaysNothing = false
tested s (Opens name db) = nat_lt SECTIONS_MAX (length s.names + 1)
tested s (Runs command) = nat_lt NOTE_LINES_MAX (notes_with s (Runs command))
tested s (Signals flag) = nat_lt FLAGS_MAX (length (with_name s.flags.names flag))
tested s (Awaits flag) = nat_lt FLAGS_MAX (length (with_name s.flags.names flag))
tested s Quits = false
tested s NoMeta = false

none_more : (s : State) (one : Says) → AreFew s → filter_map opened_name (one ∷ []) ≡ [] → filter_map named_flag (one ∷ []) ≡ [] → notifies one ≡ false → many_with s one ≡ false
none_more s one h p q r =
    let names : nat_lt SECTIONS_MAX (length (names_with s one)) ≡ false = ap (λ (l : List (List ℕ)). nat_lt SECTIONS_MAX (length (s.names ++ l))) p ∙ no_more_names s h in
    let flags : nat_lt FLAGS_MAX (length (flags_with s one)) ≡ false = ap (λ (l : List (List ℕ)). nat_lt FLAGS_MAX (length (fold with_name s.flags.names l))) q ∙ h.flags in
    let notes : nat_lt NOTE_LINES_MAX (notes_with s one) ≡ false = ap (λ (b : Bool). nat_lt NOTE_LINES_MAX (s.notes + cond b 1 0)) r ∙ no_more_notes s h in
    third_alone (nat_lt SECTIONS_MAX (length (names_with s one))) (nat_lt FLAGS_MAX (length (flags_with s one))) (nat_lt NOTE_LINES_MAX (notes_with s one)) names flags ∙ notes

tests : (s : State) (one : Says) → AreFew s → many_with s one ≡ tested s one
tests s SaysNothing h = none_more s SaysNothing h refl refl refl
tests s Quits h = none_more s Quits h refl refl refl
tests s NoMeta h = none_more s NoMeta h refl refl refl
tests s (Opens name db) h =
    first_alone (nat_lt SECTIONS_MAX (length (s.names ++ name ∷ []))) (nat_lt FLAGS_MAX (length s.flags.names)) (nat_lt NOTE_LINES_MAX (s.notes + 0)) h.flags (no_more_notes s h)
    ∙ ap (λ (n : ℕ). nat_lt SECTIONS_MAX n) (length-append s.names (name ∷ []))
tests s (Runs command) h =
    third_alone (nat_lt SECTIONS_MAX (length (s.names ++ []))) (nat_lt FLAGS_MAX (length s.flags.names)) (nat_lt NOTE_LINES_MAX (notes_with s (Runs command))) (no_more_names s h) h.flags
tests s (Signals flag) h =
    second_alone (nat_lt SECTIONS_MAX (length (s.names ++ []))) (nat_lt FLAGS_MAX (length (with_name s.flags.names flag))) (nat_lt NOTE_LINES_MAX (s.notes + 0)) (no_more_names s h) (no_more_notes s h)
tests s (Awaits flag) h =
    second_alone (nat_lt SECTIONS_MAX (length (s.names ++ []))) (nat_lt FLAGS_MAX (length (with_name s.flags.names flag))) (nat_lt NOTE_LINES_MAX (s.notes + 0)) (no_more_names s h) (no_more_notes s h)

many_tested : (before : List Says) (one : Says) (s : State) → Tells before s → are_too_many (before ++ one ∷ []) ≡ tested s one
many_tested before one s h = sym (many_more before one s h) ∙ tests s one (are_few before s h)

-- the next state knows of what is said next
record Learns (s t : State) (one : Says) : Type 0 where
  names : t.names ≡ names_with s one
  flags : t.flags.names ≡ flags_with s one
  notes : t.notes ≡ notes_with s one
  quit : t.quit ≡ cond (is_opening one) false (s.quit || is_quit one)
  part : is_some t.part ≡ (is_some s.part || is_opening one)

or_end : (a b : Bool) → (a || b) ≡ (a || (b || false))
or_end true b = refl
or_end false true = refl
or_end false false = refl

one_opens : (said : List Says) (last : Says) → (has_section said || is_opening last) ≡ has_section (said ++ last ∷ [])
one_opens said last = or_end (has_section said) (is_opening last) ∙ sym (list_any-append is_opening said (last ∷ []))

learned : (before : List Says) (one : Says) (s t : State) → Tells before s → Learns s t one → tested s one ≡ false → Tells (before ++ one ∷ []) t
learned before one s t h l few = record {
  names = l.names ∙ names_more before one s h;
  flags = l.flags ∙ flags_more before one s h;
  notes = l.notes ∙ notes_more before one s h;
  quit = l.quit ∙ ap (λ (b : Bool). cond (is_opening one) false (b || is_quit one)) h.quit
      ∙ sym (fold_push (λ (quit : Bool) (line : Says). cond (is_opening line) false (quit || is_quit line)) false before one);
  part = l.part ∙ ap (λ (b : Bool). b || is_opening one) h.part ∙ one_opens before one;
  few = many_tested before one s h ∙ few;
}

-- What a line that says this makes, against its fault.

abbrev Follows : ℕ → List Says → Says → Result State ScenarioFault → Type 0
Follows n before one made = MatchResult made (λ t. (fault_said n before one ≡ None) × Tells (before ++ one ∷ []) t) (λ found. fault_said n before one ≡ Some found)

-- the faults of a line, each by its test
abbrev faults_by : ℕ → Bool → Bool → Bool → Bool → Option ScenarioFault
faults_by n meta lacks same many = cond meta (Some (fault.BadMeta n)) (cond lacks (Some (fault.NoSession n)) (cond same (Some (fault.SameName n)) (cond many (Some (fault.TooMany n)) None)))

does : (n : ℕ) (quit some many : Bool) (P : State → Type 0) (next : State) → (many ≡ false → P next)
    → MatchResult (cond quit (Err (fault.BadMeta n)) (cond some (cond many (Err (fault.TooMany n)) (Ok next)) (Err (fault.NoSession n))))
    (λ t. (faults_by n quit (not some) false many ≡ None) × P t) (λ found. faults_by n quit (not some) false many ≡ Some found)
does n true some many P next h = refl
does n false false many P next h = refl
does n false true true P next h = refl
does n false true false P next h = (refl, h refl)

begins : (n : ℕ) (same many : Bool) (P : State → Type 0) (next : State) → (many ≡ false → P next)
    → MatchResult (cond same (Err (fault.SameName n)) (cond many (Err (fault.TooMany n)) (Ok next)))
    (λ t. (faults_by n false false same many ≡ None) × P t) (λ found. faults_by n false false same many ≡ Some found)
begins n true many P next h = refl
begins n false true P next h = refl
begins n false false P next h = (refl, h refl)

kept_some : {X Y : Type 0} (f : X → Y) (o : Option X) → is_some (option_map f o) ≡ is_some o
kept_some f None = refl
kept_some f (Some x) = refl

or_true : (a : Bool) → true ≡ (a || true)
or_true true = refl
or_true false = refl

or_none : (a : Bool) → a ≡ (a || false)
or_none true = refl
or_none false = refl

same_part : (s : State) (b : Bool) → b ≡ is_some s.part → b ≡ (is_some s.part || false)
same_part s b e = e ∙ or_none (is_some s.part)

no_names : (s : State) → s.names ≡ s.names ++ []
no_names s = sym (append-nil s.names)

no_notes : (s : State) → s.notes ≡ s.notes + 0
no_notes s = omega arith

nothing_learned : (s : State) → Learns s s SaysNothing
nothing_learned s = record { names = no_names s; flags = refl; notes = no_notes s; quit = or_none s.quit; part = or_none (is_some s.part) }

opening_learned : (s : State) (name : List ℕ) (db : ℕ) → Learns s (opened s name db) (Opens name db)
opening_learned s name db = record { names = refl; flags = refl; notes = no_notes s; quit = refl; part = or_true (is_some s.part) }

running_learned : (s : State) (text : List ℕ) (command : Command) → Learns s (acted s text (Run command)) (Runs command)
running_learned s text command = record {
  names = no_names s;
  flags = refl;
  notes = refl;
  quit = or_none s.quit;
  part = same_part s (is_some (acted s text (Run command)).part) (kept_some (with_line (script_line s.line text (Run command))) s.part);
}

signal_learned : (s : State) (text flag : List ℕ) (number : ℕ) → Learns s (acted (record s { flags = signalling s.flags flag }) text (Signal number)) (Signals flag)
signal_learned s text flag number = record {
  names = no_names s;
  flags = refl;
  notes = refl;
  quit = or_none s.quit;
  part = same_part s (is_some (option_map (with_line (script_line s.line text (Signal number))) s.part)) (kept_some (with_line (script_line s.line text (Signal number))) s.part);
}

await_learned : (s : State) (text flag : List ℕ) (number : ℕ) → Learns s (acted (record s { flags = awaiting s.flags flag s.line }) text (Await number)) (Awaits flag)
await_learned s text flag number = record {
  names = no_names s;
  flags = refl;
  notes = refl;
  quit = or_none s.quit;
  part = same_part s (is_some (option_map (with_line (script_line s.line text (Await number))) s.part)) (kept_some (with_line (script_line s.line text (Await number))) s.part);
}

quit_learned : (s : State) (text : List ℕ) → Learns s (record (acted s text Quit) { quit = true }) Quits
quit_learned s text = record {
  names = no_names s;
  flags = refl;
  notes = refl;
  quit = or_true s.quit;
  part = same_part s (is_some (option_map (with_line (script_line s.line text Quit)) s.part)) (kept_some (with_line (script_line s.line text Quit)) s.part);
}

-- what a line of a section makes
does_follow : (before : List Says) (one : Says) (s next : State) → Tells before s → Learns s next one
    → MatchResult (within s (unless_many s (tested s one) next))
    (λ t. (faults_by s.line (has_quit before) (not (has_section before)) false (are_too_many (before ++ one ∷ [])) ≡ None) × Tells (before ++ one ∷ []) t)
    (λ found. faults_by s.line (has_quit before) (not (has_section before)) false (are_too_many (before ++ one ∷ [])) ≡ Some found)
does_follow before one s next h l =
    let made : Result State ScenarioFault = within s (unless_many s (tested s one) next) in
    let P : State → Type 0 = Tells (before ++ one ∷ []) in
    let here : MatchResult made (λ t. (faults_by s.line s.quit (not (is_some s.part)) false (tested s one) ≡ None) × P t) (λ found. faults_by s.line s.quit (not (is_some s.part)) false (tested s one) ≡ Some found)
    = does s.line s.quit (is_some s.part) (tested s one) P next (λ few. learned before one s next h l few) in
    let same : faults_by s.line s.quit (not (is_some s.part)) false (tested s one) ≡ faults_by s.line (has_quit before) (not (has_section before)) false (are_too_many (before ++ one ∷ []))
    = ap (λ (b : Bool). faults_by s.line b (not (is_some s.part)) false (tested s one)) h.quit
    ∙ ap (λ (b : Bool). faults_by s.line (has_quit before) (not b) false (tested s one)) h.part
    ∙ ap (λ (b : Bool). faults_by s.line (has_quit before) (not (has_section before)) false b) (sym (many_tested before one s h)) in
    subst (λ (o : Option ScenarioFault). MatchResult made (λ t. (o ≡ None) × P t) (λ found. o ≡ Some found)) same here

-- what a line makes at which a section begins
begin_follows : (before : List Says) (name : List ℕ) (db : ℕ) (s : State) → Tells before s → Follows s.line before (Opens name db) (opening s name db)
begin_follows before name db s h =
    let one : Says = Opens name db in
    let made : Result State ScenarioFault = opening s name db in
    let P : State → Type 0 = Tells (before ++ one ∷ []) in
    let here : MatchResult made (λ t. (faults_by s.line false false (has_name s.names name) (tested s one) ≡ None) × P t) (λ found. faults_by s.line false false (has_name s.names name) (tested s one) ≡ Some found)
    = begins s.line (has_name s.names name) (tested s one) P (opened s name db) (λ few. learned before one s (opened s name db) h (opening_learned s name db) few) in
    let same : faults_by s.line false false (has_name s.names name) (tested s one) ≡ faults_by s.line false false (has_name (section_names before) name) (are_too_many (before ++ one ∷ []))
    = ap (λ (l : List (List ℕ)). faults_by s.line false false (has_name l name) (tested s one)) h.names
    ∙ ap (λ (b : Bool). faults_by s.line false false (has_name (section_names before) name) b) (sym (many_tested before one s h)) in
    subst (λ (o : Option ScenarioFault). MatchResult made (λ t. (o ≡ None) × P t) (λ found. o ≡ Some found)) same here

added_follows : (before : List Says) (text : List ℕ) (one : Says) (s : State) → Tells before s → Follows s.line before one (added s text one)
added_follows before text SaysNothing s h =
    let few : are_too_many (before ++ SaysNothing ∷ []) ≡ false = many_tested before SaysNothing s h in
    (ap (λ (b : Bool). faults_by s.line false false false b) few, learned before SaysNothing s s h (nothing_learned s) refl)
added_follows before text (Opens name db) s h = begin_follows before name db s h
added_follows before text (Runs command) s h = does_follow before (Runs command) s (acted s text (Run command)) h (running_learned s text command)
added_follows before text (Signals flag) s h =
    does_follow before (Signals flag) s (acted (record s { flags = signalling s.flags flag }) text (Signal (flag_number s.flags.names flag))) h (signal_learned s text flag (flag_number s.flags.names flag))
added_follows before text (Awaits flag) s h =
    does_follow before (Awaits flag) s (acted (record s { flags = awaiting s.flags flag s.line }) text (Await (flag_number s.flags.names flag))) h (await_learned s text flag (flag_number s.flags.names flag))
added_follows before text Quits s h = does_follow before Quits s (record (acted s text Quit) { quit = true }) h (quit_learned s text)
added_follows before text NoMeta s h = refl

-- What lines make.

-- the state stands for these lines
pub record StandsFor (before : List (List ℕ)) (s : State) : Type 0 where
  pub said : Tells (all_say before) s
  pub line : s.line ≡ line_number before
  pub at : s.at ≡ line_start before

-- the first state stands for no lines
pub starts : StandsFor [] at_start
starts = record {
  said = record { names = refl; flags = refl; notes = refl; quit = refl; part = refl; few = refl };
  line = refl;
  at = refl;
}

said_more : (before : List (List ℕ)) (line : List ℕ) → all_say (before ++ line ∷ []) ≡ all_say before ++ says line ∷ []
said_more before line = map-append says before (line ∷ [])

-- a line moves the state on
moved : (before : List (List ℕ)) (line : List ℕ) (s t : State) → StandsFor before s → t.line ≡ s.line → t.at ≡ s.at → Tells (all_say before ++ says line ∷ []) t → StandsFor (before ++ line ∷ []) (passed (length line) t)
moved before line s t h l a k =
    let told : Tells (all_say (before ++ line ∷ [])) t = subst (λ (said : List Says). Tells said t) (sym (said_more before line)) k in
    let count : length (before ++ line ∷ []) ≡ length before + 1 = length-append before (line ∷ []) in
    let start : line_start (before ++ line ∷ []) ≡ line_start before + (length line + 1) = sum_by_push (λ (one : List ℕ). length one + 1) before line in
    let number : s.line ≡ line_number before = h.line in
    let place : s.at ≡ line_start before = h.at in
    record {
      said = record { names = told.names; flags = told.flags; notes = told.notes; quit = told.quit; part = told.part; few = told.few };
      line = omega (arith, count, number, l);
      at = omega (arith, start, place, a);
    }

-- a line that makes something is on the same line until it has passed
within_keeps : (s next : State) (many : Bool) → next.line ≡ s.line → next.at ≡ s.at → MatchResult (within s (unless_many s many next)) (λ t. (t.line ≡ s.line) × (t.at ≡ s.at)) (λ found. Unit {0})
within_keeps s next many l a = kept s.quit (is_some s.part) many
  where
    kept : (quit some many : Bool) → MatchResult (cond quit (Err (fault.BadMeta s.line)) (cond some (cond many (Err (fault.TooMany s.line)) (Ok next)) (Err (fault.NoSession s.line)))) (λ t. (t.line ≡ s.line) × (t.at ≡ s.at)) (λ found. Unit {0})
    kept true some many = tt
    kept false false many = tt
    kept false true true = tt
    kept false true false = (l, a)

opening_keeps : (s : State) (name : List ℕ) (db : ℕ) → MatchResult (opening s name db) (λ t. (t.line ≡ s.line) × (t.at ≡ s.at)) (λ found. Unit {0})
opening_keeps s name db = kept (has_name s.names name) (nat_lt SECTIONS_MAX (length s.names + 1))
  where
    kept : (same many : Bool) → MatchResult (cond same (Err (fault.SameName s.line)) (cond many (Err (fault.TooMany s.line)) (Ok (opened s name db)))) (λ t. (t.line ≡ s.line) × (t.at ≡ s.at)) (λ found. Unit {0})
    kept true many = tt
    kept false true = tt
    kept false false = (refl, refl)

added_keeps : (s : State) (text : List ℕ) (one : Says) → MatchResult (added s text one) (λ t. (t.line ≡ s.line) × (t.at ≡ s.at)) (λ found. Unit {0})
added_keeps s text SaysNothing = (refl, refl)
added_keeps s text (Opens name db) = opening_keeps s name db
added_keeps s text (Runs command) = within_keeps s (acted s text (Run command)) (nat_lt NOTE_LINES_MAX (notes_with s (Runs command))) refl refl
added_keeps s text (Signals flag) =
    within_keeps s (acted (record s { flags = signalling s.flags flag }) text (Signal (flag_number s.flags.names flag))) (nat_lt FLAGS_MAX (length (with_name s.flags.names flag))) refl refl
added_keeps s text (Awaits flag) =
    within_keeps s (acted (record s { flags = awaiting s.flags flag s.line }) text (Await (flag_number s.flags.names flag))) (nat_lt FLAGS_MAX (length (with_name s.flags.names flag))) refl refl
added_keeps s text Quits = within_keeps s (record (acted s text Quit) { quit = true }) false refl refl
added_keeps s text NoMeta = tt

abbrev LineFollows : List (List ℕ) → List ℕ → Result State ScenarioFault → Option ScenarioFault → Type 0
LineFollows before line made found = MatchResult made (λ t. (found ≡ None) × StandsFor (before ++ line ∷ []) t) (λ one. found ≡ Some one)

passes_on : (before : List (List ℕ)) (line : List ℕ) (s : State) (made : Result State ScenarioFault) → StandsFor before s → Follows s.line (all_say before) (says line) made
    → MatchResult made (λ t. (t.line ≡ s.line) × (t.at ≡ s.at)) (λ found. Unit {0})
    → LineFollows before line (after_ok (passed (length line)) made) (fault_said s.line (all_say before) (says line))
passes_on before line s (Ok t) h f k = (f.0, moved before line s t h k.0 k.1 f.1)
passes_on before line s (Err found) h f k = f

tested_first : (before : List (List ℕ)) (line : List ℕ) (long bad nul : Bool) (a b c : ScenarioFault) (made : Result State ScenarioFault) (found : Option ScenarioFault) → LineFollows before line made found
    → LineFollows before line (cond long (Err a) (cond bad (Err b) (cond nul (Err c) made))) (cond long (Some a) (cond bad (Some b) (cond nul (Some c) found)))
tested_first before line true bad nul a b c made found h = refl
tested_first before line false true nul a b c made found h = refl
tested_first before line false false true a b c made found h = refl
tested_first before line false false false a b c made found h = h

line_follows : (before : List (List ℕ)) (line : List ℕ) (s : State) → StandsFor before s → LineFollows before line (step s line) (fault_of before line)
unfolding fault_of
line_follows before line s h =
    let told : LineFollows before line (after_ok (passed (length line)) (added s (trimmed line) (says line))) (fault_said s.line (all_say before) (says line))
    = passes_on before line s (added s (trimmed line) (says line)) h (added_follows (all_say before) (trimmed line) (says line) s h.said) (added_keeps s (trimmed line) (says line)) in
    let whole : LineFollows before line (step s line)
    (cond (nat_lt LINE_BYTES_MAX (length line)) (Some (fault.LineTooLong s.line)) (cond (not (is_utf8 line)) (Some (fault.NotUtf8 (s.at + utf8_valid_len line)))
    (cond (list_any (λ byte. byte == 0) line) (Some (fault.NulByte s.line)) (fault_said s.line (all_say before) (says line)))))
    = tested_first before line (nat_lt LINE_BYTES_MAX (length line)) (not (is_utf8 line)) (list_any (λ byte. byte == 0) line) (fault.LineTooLong s.line) (fault.NotUtf8 (s.at + utf8_valid_len line)) (fault.NulByte s.line)
    (after_ok (passed (length line)) (added s (trimmed line) (says line))) (fault_said s.line (all_say before) (says line)) told in
    subst (λ (n : ℕ). LineFollows before line (step s line)
    (cond (nat_lt LINE_BYTES_MAX (length line)) (Some (fault.LineTooLong n)) (cond (not (is_utf8 line)) (Some (fault.NotUtf8 (line_start before + utf8_valid_len line)))
    (cond (list_any (λ byte. byte == 0) line) (Some (fault.NulByte n)) (fault_said n (all_say before) (says line)))))) h.line
    (subst (λ (a : ℕ). LineFollows before line (step s line)
    (cond (nat_lt LINE_BYTES_MAX (length line)) (Some (fault.LineTooLong s.line)) (cond (not (is_utf8 line)) (Some (fault.NotUtf8 (a + utf8_valid_len line)))
    (cond (list_any (λ byte. byte == 0) line) (Some (fault.NulByte s.line)) (fault_said s.line (all_say before) (says line)))))) h.at whole)

-- lines that are taken have no fault, and the first fault is found
abbrev pub AllFollow : List (List ℕ) → List (List ℕ) → Result State ScenarioFault → Type 0
AllFollow before lines made = MatchResult made (λ t. (first_fault before lines ≡ None) × StandsFor (before ++ lines) t) (λ found. first_fault before lines ≡ Some found)

line_then : (before : List (List ℕ)) (line : List ℕ) (lines : List (List ℕ)) → ((t : State) → StandsFor (before ++ line ∷ []) t → AllFollow (before ++ line ∷ []) lines (steps t lines))
    → (made : Result State ScenarioFault) (found : Option ScenarioFault) → LineFollows before line made found
    → MatchResult (elim made as (λ _. Result State ScenarioFault) [ Ok next ↦ steps next lines | Err one ↦ Err one ])
    (λ t. (elim found as (λ _. Option ScenarioFault) [ None ↦ first_fault (before ++ line ∷ []) lines | Some one ↦ Some one ] ≡ None) × StandsFor (before ++ line ∷ lines) t)
    (λ one. elim found as (λ _. Option ScenarioFault) [ None ↦ first_fault (before ++ line ∷ []) lines | Some other ↦ Some other ] ≡ Some one)
line_then before line lines rest (Ok t) None k =
    subst (λ (l : List (List ℕ)). MatchResult (steps t lines) (λ u. (first_fault (before ++ line ∷ []) lines ≡ None) × StandsFor l u) (λ one. first_fault (before ++ line ∷ []) lines ≡ Some one))
    (append_assoc before (line ∷ []) lines) (rest t k.1)
line_then before line lines rest (Ok t) (Some one) k = let no_more : Some one ≡ None = k.0 in absurd (cc)
line_then before line lines rest (Err one) None k = absurd (cc)
line_then before line lines rest (Err one) (Some other) k = k

-- a state that stands for lines, and the steps over those that follow
pub steps_follow : (before lines : List (List ℕ)) (s : State) → StandsFor before s → AllFollow before lines (steps s lines)
steps_follow before [] s h = (refl, subst (λ (l : List (List ℕ)). StandsFor l s) (sym (append-nil before)) h)
steps_follow before (line ∷ lines) s h =
    line_then before line lines (λ t k. steps_follow (before ++ line ∷ []) lines t k) (step s line) (fault_of before line) (line_follows before line s h)
