-- An input has one reading.
use Rattle.std.proofs.Common.{◌≡◌, ◌↔◌, ℕ, ◌+◌, ◌<◌, ◌≤◌, zero, suc, Bool, true, false, cond, List, [], ◌∷◌, ◌++◌, length, None, Some, Result, Err, sym, ap, ◌∙◌, refl, subst, arith}
use Rattle.std.specs.Prelude.{nat_lt, count_by, fold, filter_map, replicate, ◌||◌, ◌==◌, not}
use Rattle.std.specs.List.{list_all, list_any}
use Rattle.std.specs.Str.{is_utf8}
use Rattle.std.specs.Str.Lossy.{utf8_valid_len}
use Rattle.std.proofs.lemmas.List.{length-replicate, append-nil}
use Rattle.std.proofs.lemmas.List.Elements.{filter_map-append, All-replicate}
use Rattle.std.proofs.lemmas.Str.{is_utf8-from_IsUtf8, IsUtf8-from_ascii}
use Rattle.std.proofs.lemmas.Str.Ascii.{IsAscii-from_all}
use Rattle.pgn_base.specs.declared.limits.TheConstants.{FLAGS_MAX, INPUT_BYTES_MAX, LINE_BYTES_MAX, NOTE_LINES_MAX, SECTIONS_MAX}
use Rattle.pgn_language.proofs.LineLaws.{lines_last, trimmed-blank}
use Rattle.std.proofs.lemmas.Bool.{lt-ltb, le-ltb}
use Rattle.std.proofs.lemmas.List.Sums.{sum_by_push}
use Rattle.pgn_language.specs.declared.scenario.Scenario.{Scenario}
use Rattle.pgn_language.specs.declared.scenario.ScenarioFault.{ScenarioFault}
use Rattle.pgn_language.specs.declared.scenario.ScenarioFault.TheVariants as fault
use Rattle.pgn_base.specs.declared.note.Note.{Note}
use Rattle.pgn_base.specs.declared.command.Command.TheVariants as command
use Rattle.pgn_language.specs.Tokens.{is_blank}
use Rattle.pgn_language.specs.Grammar.{table}
use Rattle.pgn_language.specs.Lines.{Says, SaysNothing, Runs, says, text_says, lines_of}
use Rattle.pgn_language.specs.Inputs.{all_say, section_names, flags_of, notifies, has_quit, opened_name, named_flag, with_name, is_bad_meta, lacks_session, repeats_name, line_number, line_start, are_too_many, fault_said, fault_of, has_section, HaveNoFault, ReadsAsScenario, Large, Faulty, Sectionless, Unsignalled, Faultless}
use Rattle.pgn_language.specs.laws.Inputs.{lacks, first_fault, input_reading}
use Rattle.pgn_language.proofs.InputLaws.{nothing_in, none-sound, input-reads, reads-input}

-- the reading of an input and the computed one are the same
pub input-computes : (input : List ℕ) (read : Result Scenario ScenarioFault) → ReadsAsScenario input read ↔ (input_reading input ≡ read)
input-computes input read = (reads-input input read, λ e. subst (λ (r : Result Scenario ScenarioFault). ReadsAsScenario input r) e (input-reads input))

-- an input has a reading, and no other one
pub one-input_reading : (input : List ℕ)
    → (read : Result Scenario ScenarioFault) × ReadsAsScenario input read × ((other : Result Scenario ScenarioFault) → ReadsAsScenario input other → other ≡ read)
one-input_reading input = (input_reading input, input-reads input, λ other h. sym (reads-input input other h))

-- a line that is too long
pub long-line : (line : List ℕ) → length line ≤ INPUT_BYTES_MAX → LINE_BYTES_MAX < length line → lacks 10 line ≡ true → ReadsAsScenario line (Err (fault.LineTooLong 1))
unfolding fault_of
long-line line within long h =
    let here : fault_of [] line ≡ Some (fault.LineTooLong 1) = rw (lt-ltb LINE_BYTES_MAX (length line) long) refl in
    Faulty within [] line [] (lines_last line h (omega arith)) (λ front other more e. absurd (nothing_in front other more e)) (fault.LineTooLong 1) here

-- the last of three tests passes
last_passes : (a b c : Bool) → c ≡ true → (a || b || c) ≡ true
last_passes true true c e = refl
last_passes true false c e = refl
last_passes false true c e = refl
last_passes false false c e = e

no_fault_before : (n : ℕ) (quit section many : Bool) → quit ≡ false → section ≡ true → many ≡ true
    → cond quit (Some (fault.BadMeta n)) (cond (not section) (Some (fault.NoSession n)) (cond false (Some (fault.SameName n)) (cond many (Some (fault.TooMany n)) None))) ≡ Some (fault.TooMany n)
no_fault_before n false true true q s m = refl
no_fault_before n true section many q s m = absurd (cc)
no_fault_before n false false many q s m = absurd (cc)
no_fault_before n false true false q s m = absurd (cc)

-- a line that notifies after as many as there may be
pub one-note_line_more : (n : ℕ) (before : List Says) (note : Note) → has_quit before ≡ false → has_section before ≡ true → count_by notifies before ≡ NOTE_LINES_MAX
    → fault_said n before (Runs (command.Notify note)) ≡ Some (fault.TooMany n)
one-note_line_more n before note q s c =
    let said : List Says = before ++ Runs (command.Notify note) ∷ [] in
    let more : count_by notifies said ≡ count_by notifies before + 1 = sum_by_push (λ s. cond (notifies s) 1 0) before (Runs (command.Notify note)) in
    let many : are_too_many said ≡ true = last_passes (nat_lt SECTIONS_MAX (length (section_names said))) (nat_lt FLAGS_MAX (length (flags_of said))) (nat_lt NOTE_LINES_MAX (count_by notifies said))
    (lt-ltb NOTE_LINES_MAX (count_by notifies said) (omega (arith, more, c))) in
    no_fault_before n (has_quit before) (has_section before) (are_too_many said) q s many

-- a line that notifies after fewer than there may be
no_fault : (n : ℕ) (quit section many : Bool) → quit ≡ false → section ≡ true → many ≡ false
    → cond quit (Some (fault.BadMeta n)) (cond (not section) (Some (fault.NoSession n)) (cond false (Some (fault.SameName n)) (cond many (Some (fault.TooMany n)) None))) ≡ None
no_fault n false true false q s m = refl
no_fault n true section many q s m = absurd (cc)
no_fault n false false many q s m = absurd (cc)
no_fault n false true true q s m = absurd (cc)

none_of : (a b c : Bool) → (a || b || c) ≡ false → (a ≡ false) × (b ≡ false)
none_of true true c h = absurd (cc)
none_of true false c h = absurd (cc)
none_of false true c h = absurd (cc)
none_of false false c h = (refl, refl)

three_fail : (a b c : Bool) → a ≡ false → b ≡ false → c ≡ false → (a || b || c) ≡ false
three_fail false false false p q r = refl
three_fail true b c p q r = absurd (cc)
three_fail false true c p q r = absurd (cc)
three_fail false false true p q r = absurd (cc)

-- one more line that notifies is no fault, where a section stands before it and neither QUIT nor too many are
pub one-note_line_within : (n : ℕ) (before : List Says) (note : Note) → has_quit before ≡ false → has_section before ≡ true → are_too_many before ≡ false → count_by notifies before ≤ 65535
    → fault_said n before (Runs (command.Notify note)) ≡ None
one-note_line_within n before note q s few c =
    let said : List Says = before ++ Runs (command.Notify note) ∷ [] in
    let more : count_by notifies said ≡ count_by notifies before + 1 = sum_by_push (λ s. cond (notifies s) 1 0) before (Runs (command.Notify note)) in
    let names : section_names said ≡ section_names before = filter_map-append opened_name before (Runs (command.Notify note) ∷ []) ∙ append-nil (section_names before) in
    let flags : flags_of said ≡ flags_of before = ap (fold with_name []) (filter_map-append named_flag before (Runs (command.Notify note) ∷ []) ∙ append-nil (filter_map named_flag before)) in
    let old : (nat_lt SECTIONS_MAX (length (section_names before)) ≡ false) × (nat_lt FLAGS_MAX (length (flags_of before)) ≡ false)
    = none_of (nat_lt SECTIONS_MAX (length (section_names before))) (nat_lt FLAGS_MAX (length (flags_of before))) (nat_lt NOTE_LINES_MAX (count_by notifies before)) few in
    let many : are_too_many said ≡ false = three_fail (nat_lt SECTIONS_MAX (length (section_names said))) (nat_lt FLAGS_MAX (length (flags_of said))) (nat_lt NOTE_LINES_MAX (count_by notifies said))
    (ap (λ (l : List (List ℕ)). nat_lt SECTIONS_MAX (length l)) names ∙ old.0) (ap (λ (l : List (List ℕ)). nat_lt FLAGS_MAX (length l)) flags ∙ old.1)
    (le-ltb NOTE_LINES_MAX (count_by notifies said) (omega (arith, more, c))) in
    no_fault n (has_quit before) (has_section before) (are_too_many said) q s many

-- a line is never too large
not_large : (a b c d e f g : Bool) (n m k : ℕ) → cond a (Some (fault.LineTooLong n)) (cond b (Some (fault.NotUtf8 m)) (cond c (Some (fault.NulByte n))
    (cond d (Some (fault.BadMeta k)) (cond e (Some (fault.NoSession k)) (cond f (Some (fault.SameName k)) (cond g (Some (fault.TooMany k)) None)))))) ≡ Some fault.TooLarge → ⊥
not_large true b c d e f g n m k h = absurd (cc)
not_large false true c d e f g n m k h = absurd (cc)
not_large false false true d e f g n m k h = absurd (cc)
not_large false false false true e f g n m k h = absurd (cc)
not_large false false false false true f g n m k h = absurd (cc)
not_large false false false false false true g n m k h = absurd (cc)
not_large false false false false false false true n m k h = absurd (cc)
not_large false false false false false false false n m k h = absurd (cc)

line-not_large : (before : List (List ℕ)) (line : List ℕ) → fault_of before line ≡ Some fault.TooLarge → ⊥
unfolding fault_of
line-not_large before line h =
    not_large (nat_lt LINE_BYTES_MAX (length line)) (not (is_utf8 line)) (list_any (λ byte. byte == 0) line) (is_bad_meta (all_say before) (says line)) (lacks_session (all_say before) (says line))
    (repeats_name (all_say before) (says line)) (are_too_many (all_say before ++ says line ∷ [])) (line_number before) (line_start before + utf8_valid_len line) (line_number before) h

-- only an input past the limit is too large
large-read : (input : List ℕ) (read : Result Scenario ScenarioFault) → length input ≤ INPUT_BYTES_MAX → read ≡ Err fault.TooLarge → ReadsAsScenario input read → ⊥
large-read input _ within e (Large l) = absurd (omega (arith, l, within))
large-read input _ within e (Faulty l before line rest whole sound found here) = let same : found ≡ fault.TooLarge = cc in line-not_large before line (here ∙ ap (λ (f : ScenarioFault). Some f) same)
large-read input _ within e (Sectionless l sound none) = absurd (cc)
large-read input _ within e (Unsignalled l sound some n f) = absurd (cc)
large-read input _ within e (Faultless l sound some f) = absurd (cc)

-- an input that is not over its limit is not refused as too large
pub large-only : (input : List ℕ) → length input ≤ INPUT_BYTES_MAX → ReadsAsScenario input (Err fault.TooLarge) → ⊥
large-only input within h = large-read input (Err fault.TooLarge) within refl h

-- a line of blanks
pub lacks-replicate : (n b : ℕ) → (b == 10) ≡ false → lacks 10 (replicate n b) ≡ true
lacks-replicate zero b e = refl
lacks-replicate (suc n) b e = rw e (lacks-replicate n b e)

blanks : (n : ℕ) → list_all is_blank (replicate n 32) ≡ true
blanks zero = refl
blanks (suc n) = blanks n

no_zeros : (n : ℕ) → list_any (λ byte. byte == 0) (replicate n 32) ≡ false
no_zeros zero = refl
no_zeros (suc n) = no_zeros n

spaces-say_nothing : (n : ℕ) → says (replicate n 32) ≡ SaysNothing
unfolding says table
spaces-say_nothing n = ap text_says (trimmed-blank (replicate n 32) (blanks n))

spaces-utf8 : (n : ℕ) → is_utf8 (replicate n 32) ≡ true
spaces-utf8 n =
    let P : ℕ → Type 0 = λ b. b < 128 in
    is_utf8-from_IsUtf8 (replicate n 32) (IsUtf8-from_ascii (replicate n 32) (IsAscii-from_all (replicate n 32) (All-replicate P n 32 (omega arith))))

spaces-no_fault : (n : ℕ) → n ≤ 65536 → fault_of [] (replicate n 32) ≡ None
unfolding fault_of
spaces-no_fault n within =
    let line : List ℕ = replicate n 32 in
    let size : length line ≡ n = length-replicate {A = ℕ} n 32 in
    let short : nat_lt LINE_BYTES_MAX (length line) ≡ false = le-ltb LINE_BYTES_MAX (length line) (omega (arith, within, size)) in
    rw (short, spaces-utf8 n, no_zeros n, spaces-say_nothing n) refl

one_line-sound : (line : List ℕ) → fault_of [] line ≡ None → HaveNoFault (line ∷ [])
one_line-sound line h = none-sound [] (line ∷ []) (rw (h, first_fault) refl)

-- blanks alone are an input with nothing in it
pub blank-line : (n : ℕ) → n ≤ 65536 → ReadsAsScenario (replicate n 32) (Err fault.Empty)
blank-line zero within = Sectionless (omega arith) (λ front line rest e. absurd (nothing_in front line rest e)) refl
blank-line (suc n) within =
    let line : List ℕ = replicate (suc n) 32 in
    let size : length line ≡ suc n = length-replicate {A = ℕ} (suc n) 32 in
    let one : lines_of line ≡ line ∷ [] = lines_last line (lacks-replicate (suc n) 32 refl) (omega (arith, size)) in
    let sound : HaveNoFault (lines_of line) = subst HaveNoFault (sym one) (one_line-sound line (spaces-no_fault (suc n) within)) in
    let none : has_section (all_say (line ∷ [])) ≡ false = rw (spaces-say_nothing (suc n)) refl in
    Sectionless (omega (arith, size, within)) sound (ap (λ (l : List (List ℕ)). has_section (all_say l)) one ∙ none)
