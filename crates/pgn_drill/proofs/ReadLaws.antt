-- The text of a drill reads as a scenario.
use Rattle.std.proofs.Common.{◌≡◌, ℕ, zero, suc, ◌+◌, ◌-◌, ◌*◌, ◌<◌, ◌≤◌, ◌==◌, Bool, true, false, cond, not, ◌||◌, inl, inr, List, [], ◌∷◌, ◌++◌, length, codes, decimal, bytes_eq, filter_map, fold, count_by, nat_lt, Option, None, Some, Ok, refl, sym, ap, subst, ◌∙◌, arith, append_assoc, length-append}
use Rattle.std.specs.List.{cons_option, list_all, list_any, position_from}
use Rattle.std.specs.Str.{is_utf8}
use Rattle.std.specs.Str.Lossy.{utf8_valid_len}
use Rattle.std.proofs.lemmas.Bool.{and_from, and_parts, cases_lt, cond-true, cond_both, false_from_ne_true, le-ltb, or_from, or_left, or_right}
use Rattle.std.proofs.lemmas.Fmt.{decimal_injective}
use Rattle.std.proofs.lemmas.List.{append_cancel_left, same_from_push}
use Rattle.std.proofs.lemmas.List.Elements.{filter_map-append}
use Rattle.std.proofs.lemmas.List.Folds.{list_all-append, list_any-append}
use Rattle.std.proofs.lemmas.List.Sums.{fold-append, sum_by-append}
use Rattle.std.proofs.lemmas.Slice.Eq.{bytes_eq-Decides}
use Rattle.pgn_base.specs.declared.limits.TheConstants.{FLAGS_MAX, INPUT_BYTES_MAX, LINE_BYTES_MAX, NOTE_LINES_MAX, SECTIONS_MAX}
use Rattle.pgn_base.specs.Names.{has_name}
use Rattle.pgn_language.specs.declared.scenario.Scenario.{Scenario}
use Rattle.pgn_language.specs.declared.scenario.ScenarioFault.{ScenarioFault}
use Rattle.pgn_language.specs.declared.scenario.ScenarioFault.TheVariants as fault
use Rattle.pgn_language.specs.Lines.{Says, SaysNothing, Opens, Runs, Signals, Awaits, Quits, NoMeta, lines_of, says}
use Rattle.pgn_language.specs.Inputs.{Faultless, HaveNoFault, ReadsAsScenario, all_say, are_too_many, fault_of, fault_said, flags_of, has_quit, has_section, is_bad_meta, is_opening, is_quit, is_unsignalled, lacks_session, line_number, line_start, named_flag, notifies, opened_name, repeats_name, scenario_of, section_names, unsignalled, with_name}
use Rattle.pgn_language.specs.laws.Inputs.{lacks}
use Rattle.pgn_language.proofs.LineLaws.{lines-cut}
use Rattle.pgn_model.specs.Text.{joined}
use Rattle.pgn_drill.specs.Drill.{drill, session_lines, up_to}
use Rattle.pgn_drill.specs.Laws.{DrillReads}
use Rattle.pgn_drill.proofs.DigitLaws.{printed-lacks, printed-utf8}
use Rattle.pgn_drill.proofs.SayLaws.{last-of, session-line}
use Rattle.pgn_drill.proofs.GistLaws.{AreFair, IsFair, drill-gist, flag_at, flags_in, flags_to, is_kept, name_at, names_to, say-append}

-- Names: no two sessions have one.

itself : (text : List ℕ) → bytes_eq text text ≡ true
itself text = (bytes_eq-Decides text text).1 refl

other-name : (i k : ℕ) → i < k → k ≤ 32 → bytes_eq (name_at k) (name_at i) ≡ false
other-name i k less few = false_from_ne_true (bytes_eq (name_at k) (name_at i)) (λ same.
    let digits : decimal k ≡ decimal i = append_cancel_left (codes "d") (decimal k) (decimal i) ((bytes_eq-Decides (name_at k) (name_at i)).0 same) in
    let number : k ≡ i = decimal_injective k i (omega (arith, few)) (omega (arith, few, less)) digits in
    omega (arith, less, number))

new-name : (n k : ℕ) → n < k → k ≤ 32 → has_name (names_to n) (name_at k) ≡ false
unfolding up_to
new-name zero k less few = refl
new-name (suc n) k less few =
    list_any-append (bytes_eq (name_at k)) (names_to n) (name_at (suc n) ∷ [])
    ∙ or_from (has_name (names_to n) (name_at k)) (list_any (bytes_eq (name_at k)) (name_at (suc n) ∷ [])) (new-name n k (omega (arith, less)) few)
    (or_from (bytes_eq (name_at k) (name_at (suc n))) false (other-name (suc n) k less few) refl)

-- no name stands behind itself
abbrev AreApart : List (List ℕ) → Type 0
AreApart names = (front : List (List ℕ)) (name : List ℕ) (rest : List (List ℕ)) → names ≡ front ++ name ∷ rest → has_name front name ≡ false

apart-none : AreApart []
apart-none [] name rest e = refl
apart-none (x ∷ front) name rest e = absurd (cc)

apart-push : (names : List (List ℕ)) (name : List ℕ) → AreApart names → has_name names name ≡ false → AreApart (names ++ name ∷ [])
apart-push names name apart new front other rest e = elim (last-of rest) [
  | inl none ↦
      let same = same_from_push names front name other (e ∙ ap (λ (r : List (List ℕ)). front ++ other ∷ r) none) in
      ap (λ (ns : List (List ℕ)). has_name ns other) (sym same.0) ∙ ap (has_name names) (sym same.1) ∙ new
  | inr l ↦
      let whole : front ++ other ∷ rest ≡ (front ++ other ∷ l.0) ++ l.1 ∷ [] = ap (λ (r : List (List ℕ)). front ++ other ∷ r) l.2 ∙ sym (append_assoc front (other ∷ l.0) (l.1 ∷ [])) in
      apart front other l.0 (same_from_push names (front ++ other ∷ l.0) name l.1 (e ∙ whole)).0
]

names-apart : (n : ℕ) → n ≤ 32 → AreApart (names_to n)
unfolding up_to
names-apart zero few = apart-none
names-apart (suc n) few = apart-push (names_to n) (name_at (suc n)) (names-apart n (omega (arith, few))) (new-name n (suc n) (omega arith) few)

names-length : (n : ℕ) → length (names_to n) ≡ n
unfolding up_to
names-length zero = refl
names-length (suc n) = omega (arith, length-append (names_to n) (name_at (suc n) ∷ []), names-length n)

-- Flags: each that is named is that of a session, which signals it.

flags-length : (n : ℕ) → length (flags_to n) ≡ n
unfolding up_to
flags-length zero = refl
flags-length (suc n) = omega (arith, length-append (flags_to n) (flag_at (suc n) ∷ []), flags-length n)

flag-in : (n k : ℕ) → 0 < k → k ≤ n → has_name (flags_to n) (flag_at k) ≡ true
unfolding up_to
flag-in zero k some few = absurd (omega (arith, some, few))
flag-in (suc n) k some few =
    list_any-append (bytes_eq (flag_at k)) (flags_to n) (flag_at (suc n) ∷ []) ∙ elim (cases_lt n k) [
      | inl l ↦
          let last : k ≡ suc n = omega (arith, l, few) in
          or_right (has_name (flags_to n) (flag_at k)) (list_any (bytes_eq (flag_at k)) (flag_at (suc n) ∷ []))
          (or_left (bytes_eq (flag_at k) (flag_at (suc n))) false ((bytes_eq-Decides (flag_at k) (flag_at (suc n))).1 (ap flag_at last)))
      | inr l ↦ or_left (has_name (flags_to n) (flag_at k)) (list_any (bytes_eq (flag_at k)) (flag_at (suc n) ∷ [])) (flag-in n k some l)
    ]

flags-among : (sessions n : ℕ) → n ≤ sessions → list_all (has_name (flags_to sessions)) (flags_to n) ≡ true
unfolding up_to
flags-among sessions zero l = refl
flags-among sessions (suc n) l =
    let known : List ℕ → Bool = has_name (flags_to sessions) in
    list_all-append known (flags_to n) (flag_at (suc n) ∷ [])
    ∙ and_from (list_all known (flags_to n)) (list_all known (flag_at (suc n) ∷ [])) (flags-among sessions n (omega (arith, l)))
    (and_from (known (flag_at (suc n))) true (flag-in sessions (suc n) (omega arith) l) refl)

all-among : (sessions n : ℕ) → n ≤ sessions → list_all (has_name (flags_to sessions)) (flags_in sessions n) ≡ true
unfolding up_to
all-among sessions zero l = refl
all-among sessions (suc n) l =
    let known : List ℕ → Bool = has_name (flags_to sessions) in
    list_all-append known (flags_in sessions n) (flag_at (suc n) ∷ flags_to sessions)
    ∙ and_from (list_all known (flags_in sessions n)) (list_all known (flag_at (suc n) ∷ flags_to sessions)) (all-among sessions n (omega (arith, l)))
    (and_from (known (flag_at (suc n))) (list_all known (flags_to sessions)) (flag-in sessions (suc n) (omega arith) l) (flags-among sessions sessions (omega arith)))

-- a test that all flags pass, at one of them
flag-passes : (test : List ℕ → Bool) (n k : ℕ) → 0 < k → k ≤ n → list_all test (flags_to n) ≡ true → test (flag_at k) ≡ true
unfolding up_to
flag-passes test zero k some few h = absurd (omega (arith, some, few))
flag-passes test (suc n) k some few h =
    let parts = and_parts (list_all test (flags_to n)) (list_all test (flag_at (suc n) ∷ [])) (sym (list_all-append test (flags_to n) (flag_at (suc n) ∷ [])) ∙ h) in
    elim (cases_lt n k) [
      | inl l ↦ let last : k ≡ suc n = omega (arith, l, few) in ap (λ (i : ℕ). test (flag_at i)) last ∙ (and_parts (test (flag_at (suc n))) true parts.1).0
      | inr l ↦ flag-passes test n k some l parts.0
    ]

-- The flags, each once.

-- what is known adds nothing
known-stays : (flags more : List (List ℕ)) → list_all (has_name flags) more ≡ true → fold with_name flags more ≡ flags
known-stays flags [] h = refl
known-stays flags (x ∷ more) h =
    let parts = and_parts (has_name flags x) (list_all (has_name flags) more) h in
    ap (λ (all : List (List ℕ)). fold with_name all more) (cond-true (has_name flags x) flags (flags ++ x ∷ []) parts.0) ∙ known-stays flags more parts.1

with-keeps : (flags : List (List ℕ)) (x y : List ℕ) → has_name flags y ≡ true → has_name (with_name flags x) y ≡ true
with-keeps flags x y h = cond_both (has_name flags x) flags (flags ++ x ∷ []) (λ (all : List (List ℕ)). has_name all y ≡ true) (λ e. h)
    (λ e. list_any-append (bytes_eq y) flags (x ∷ []) ∙ or_left (has_name flags y) (list_any (bytes_eq y) (x ∷ [])) h)

with-has : (flags : List (List ℕ)) (x : List ℕ) → has_name (with_name flags x) x ≡ true
with-has flags x = cond_both (has_name flags x) flags (flags ++ x ∷ []) (λ (all : List (List ℕ)). has_name all x ≡ true) (λ e. e)
    (λ e. list_any-append (bytes_eq x) flags (x ∷ []) ∙ or_right (has_name flags x) (list_any (bytes_eq x) (x ∷ [])) (or_left (bytes_eq x x) false (itself x)))

fold-keeps : (flags more : List (List ℕ)) (y : List ℕ) → has_name flags y ≡ true → has_name (fold with_name flags more) y ≡ true
fold-keeps flags [] y h = h
fold-keeps flags (x ∷ more) y h = fold-keeps (with_name flags x) more y (with-keeps flags x y h)

fold-has : (flags more : List (List ℕ)) → list_all (has_name (fold with_name flags more)) more ≡ true
fold-has flags [] = refl
fold-has flags (x ∷ more) =
    let all : List (List ℕ) = fold with_name (with_name flags x) more in
    and_from (has_name all x) (list_all (has_name all) more) (fold-keeps (with_name flags x) more x (with-has flags x)) (fold-has (with_name flags x) more)

with-grows : (flags : List (List ℕ)) (x : List ℕ) → (length flags ≤ length (with_name flags x)) × (length (with_name flags x) ≤ length flags + 1)
with-grows flags x =
    let more : length (flags ++ x ∷ []) ≡ length flags + 1 = length-append flags (x ∷ []) in
    cond_both (has_name flags x) flags (flags ++ x ∷ []) (λ (all : List (List ℕ)). (length flags ≤ length all) × (length all ≤ length flags + 1))
    (λ e. (omega arith, omega arith)) (λ e. (omega (arith, more), omega (arith, more)))

fold-grows : (flags more : List (List ℕ)) → (length flags ≤ length (fold with_name flags more)) × (length (fold with_name flags more) ≤ length flags + length more)
fold-grows flags [] = (omega arith, omega arith)
fold-grows flags (x ∷ more) =
    let one = with-grows flags x in
    let rest = fold-grows (with_name flags x) more in
    (omega (arith, one.0, rest.0), omega (arith, one.1, rest.1))

-- the first session names each flag, so the others add none
abbrev first_flags : ℕ → List (List ℕ)
first_flags sessions = fold with_name [] (flag_at 1 ∷ flags_to sessions)

flags-stay : (sessions n : ℕ) → suc n ≤ sessions → fold with_name [] (flags_in sessions (suc n)) ≡ first_flags sessions
unfolding up_to
flags-stay sessions zero l = refl
flags-stay sessions (suc n) l =
    let all : List (List ℕ) = first_flags sessions in
    let has : list_all (has_name all) (flags_to sessions) ≡ true = (and_parts (has_name all (flag_at 1)) (list_all (has_name all) (flags_to sessions)) (fold-has [] (flag_at 1 ∷ flags_to sessions))).1 in
    let next : List (List ℕ) = flag_at (suc (suc n)) ∷ flags_to sessions in
    fold-append with_name [] (flags_in sessions (suc n)) next
    ∙ ap (λ (before : List (List ℕ)). fold with_name before next) (flags-stay sessions n (omega (arith, l)))
    ∙ known-stays all next (and_from (has_name all (flag_at (suc (suc n)))) (list_all (has_name all) (flags_to sessions)) (flag-passes (has_name all) sessions (suc (suc n)) (omega arith) l has) has)

few-flags : (sessions n : ℕ) → n ≤ sessions → sessions ≤ 32 → length (fold with_name [] (flags_in sessions n)) ≤ 256
unfolding up_to
few-flags sessions zero l few = omega arith
few-flags sessions (suc n) l few =
    let is : fold with_name [] (flags_in sessions (suc n)) ≡ first_flags sessions = flags-stay sessions n (omega (arith, l)) in
    let most : length (first_flags sessions) ≤ 0 + length (flag_at 1 ∷ flags_to sessions) = (fold-grows [] (flag_at 1 ∷ flags_to sessions)).1 in
    omega (arith, ap length is, most, flags-length sessions, few)

-- The lines of a text.

lines-again : (lines : List (List ℕ)) → AreFair lines → lines_of (joined lines) ≡ lines
lines-again [] h = refl
lines-again (line ∷ lines) h =
    let fair : IsFair line = h.0 in
    let clean : lacks 10 line ≡ true = ap not (printed-lacks 10 (omega arith) line fair.is.printed) in
    ap lines_of (append_assoc line (10 ∷ []) (joined lines)) ∙ lines-cut line (joined lines) clean ∙ ap (λ (more : List (List ℕ)). line ∷ more) (lines-again lines h.1)

joined-length : (lines : List (List ℕ)) → AreFair lines → length (joined lines) ≤ length lines * 41
joined-length [] h = omega arith
joined-length (line ∷ lines) h =
    let fair : IsFair line = h.0 in
    let short : length line ≤ 40 = fair.is.short in
    omega (arith, length-append (line ++ 10 ∷ []) (joined lines), length-append line (10 ∷ []), short, joined-length lines h.1)

fair-front : (before : List (List ℕ)) (line : List ℕ) (rest : List (List ℕ)) → AreFair (before ++ line ∷ rest) → AreFair before × IsFair line
fair-front [] line rest h = (tt, h.0)
fair-front (x ∷ before) line rest h = let more = fair-front before line rest h.1 in ((h.0, more.0), more.1)

-- the first line begins a section
abbrev starts : List (List ℕ) → Bool
starts [] = false
starts (line ∷ lines) = is_opening (says line)

starts-append : (xs ys : List (List ℕ)) → starts xs ≡ true → starts (xs ++ ys) ≡ true
starts-append [] ys h = absurd (cc)
starts-append (x ∷ xs) ys h = h

starts-up : (f : ℕ → List (List ℕ)) (n : ℕ) → starts (f 1) ≡ true → starts (up_to f (suc n)) ≡ true
unfolding up_to
starts-up f zero h = h
starts-up f (suc n) h = starts-append (up_to f (suc n)) (f (suc (suc n))) (starts-up f n h)

has-section : (lines : List (List ℕ)) → starts lines ≡ true → has_section (all_say lines) ≡ true
has-section [] h = absurd (cc)
has-section (line ∷ lines) h = or_left (is_opening (says line)) (has_section (all_say lines)) h

-- The faults of a line.

-- what each of these lines says is kept
quit-none : (lines : List (List ℕ)) → AreFair lines → has_quit (all_say lines) ≡ false
quit-none [] h = refl
quit-none (line ∷ lines) h =
    let fair : IsFair line = h.0 in
    let told : says line ≡ fair.said = fair.is.told in
    ap (λ (q : Bool). fold (λ quit one. cond (is_opening one) false (quit || is_quit one)) q (all_say lines)) (ap (λ (one : Says). cond (is_opening one) false (false || is_quit one)) told ∙ no_quit fair.said fair.kept)
    ∙ quit-none lines h.1
  where
    no_quit : (one : Says) → is_kept one ≡ true → cond (is_opening one) false (false || is_quit one) ≡ false
    no_quit SaysNothing k = refl
    no_quit (Opens name db) k = refl
    no_quit (Runs command) k = refl
    no_quit (Signals flag) k = refl
    no_quit (Awaits flag) k = refl
    no_quit Quits k = absurd (cc)
    no_quit NoMeta k = absurd (cc)

meta-none : (before : List Says) (one : Says) → is_kept one ≡ true → has_quit before ≡ false → is_bad_meta before one ≡ false
meta-none before SaysNothing k h = refl
meta-none before (Opens name db) k h = refl
meta-none before (Runs command) k h = h
meta-none before (Signals flag) k h = h
meta-none before (Awaits flag) k h = h
meta-none before Quits k h = absurd (cc)
meta-none before NoMeta k h = absurd (cc)

-- a section has begun before the line, or begins at it
begun : (before : List (List ℕ)) (line : List ℕ) (rest : List (List ℕ)) → starts (before ++ line ∷ rest) ≡ true → (has_section (all_say before) || is_opening (says line)) ≡ true
begun [] line rest h = h
begun (x ∷ before) line rest h = or_left (has_section (all_say (x ∷ before))) (is_opening (says line)) (has-section (x ∷ before) h)

or-false : (b : Bool) → (b || false) ≡ true → not b ≡ false
or-false true h = refl
or-false false h = absurd (cc)

session-there : (before : List Says) (one : Says) → (has_section before || is_opening one) ≡ true → lacks_session before one ≡ false
session-there before SaysNothing h = refl
session-there before (Opens name db) h = refl
session-there before (Runs command) h = or-false (has_section before) h
session-there before (Signals flag) h = or-false (has_section before) h
session-there before (Awaits flag) h = or-false (has_section before) h
session-there before Quits h = or-false (has_section before) h
session-there before NoMeta h = or-false (has_section before) h

name-new : (before : List Says) (one : Says) (more names : List (List ℕ)) → names ≡ section_names before ++ cons_option (opened_name one) more → AreApart names → repeats_name before one ≡ false
name-new before (Opens name db) more names e apart = apart (section_names before) name more e
name-new before SaysNothing more names e apart = refl
name-new before (Runs command) more names e apart = refl
name-new before (Signals flag) more names e apart = refl
name-new before (Awaits flag) more names e apart = refl
name-new before Quits more names e apart = refl
name-new before NoMeta more names e apart = refl

three-fail : (a b c : Bool) → a ≡ false → b ≡ false → c ≡ false → (a || b || c) ≡ false
three-fail false false false p q r = refl
three-fail true b c p q r = absurd (cc)
three-fail false true c p q r = absurd (cc)
three-fail false false true p q r = absurd (cc)

-- where all lines together are not too many, the first of them are not
few-first : (first rest : List Says) → length (section_names (first ++ rest)) ≤ 256 → length (flags_of (first ++ rest)) ≤ 256 → count_by notifies (first ++ rest) ≤ 65536 → are_too_many first ≡ false
few-first first rest names flags notes =
    let all_names : length (section_names (first ++ rest)) ≡ length (section_names first) + length (section_names rest)
    = ap length (filter_map-append opened_name first rest) ∙ length-append (section_names first) (section_names rest) in
    let all_flags : flags_of (first ++ rest) ≡ fold with_name (flags_of first) (filter_map named_flag rest)
    = ap (fold with_name []) (filter_map-append named_flag first rest) ∙ fold-append with_name [] (filter_map named_flag first) (filter_map named_flag rest) in
    let grown : length (flags_of first) ≤ length (fold with_name (flags_of first) (filter_map named_flag rest)) = (fold-grows (flags_of first) (filter_map named_flag rest)).0 in
    let all_notes : count_by notifies (first ++ rest) ≡ count_by notifies first + count_by notifies rest = sum_by-append (λ (one : Says). cond (notifies one) 1 0) first rest in
    three-fail (nat_lt SECTIONS_MAX (length (section_names first))) (nat_lt FLAGS_MAX (length (flags_of first))) (nat_lt NOTE_LINES_MAX (count_by notifies first))
    (le-ltb SECTIONS_MAX (length (section_names first)) (omega (arith, all_names, names))) (le-ltb FLAGS_MAX (length (flags_of first)) (omega (arith, ap length all_flags, grown, flags)))
    (le-ltb NOTE_LINES_MAX (count_by notifies first) (omega (arith, all_notes, notes)))

none-said : (a b c d : Bool) (n : ℕ) → a ≡ false → b ≡ false → c ≡ false → d ≡ false
    → cond a (Some (fault.BadMeta n)) (cond b (Some (fault.NoSession n)) (cond c (Some (fault.SameName n)) (cond d (Some (fault.TooMany n)) None))) ≡ None
none-said false false false false n p q r s = refl
none-said true b c d n p q r s = absurd (cc)
none-said false true c d n p q r s = absurd (cc)
none-said false false true d n p q r s = absurd (cc)
none-said false false false true n p q r s = absurd (cc)

none-of : (long utf8 nul : Bool) (n at : ℕ) (said : Option ScenarioFault) → long ≡ false → utf8 ≡ true → nul ≡ false → said ≡ None
    → cond long (Some (fault.LineTooLong n)) (cond (not utf8) (Some (fault.NotUtf8 at)) (cond nul (Some (fault.NulByte n)) said)) ≡ None
none-of false true false n at said p q r s = s
none-of true utf8 nul n at said p q r s = absurd (cc)
none-of false false nul n at said p q r s = absurd (cc)
none-of false true true n at said p q r s = absurd (cc)

-- lines whose names, flags and notifications are few, of which the first begins a section
record AreSound (lines : List (List ℕ)) : Type 0 where
  fair : AreFair lines
  first : starts lines ≡ true
  apart : AreApart (section_names (all_say lines))
  few_names : length (section_names (all_say lines)) ≤ 256
  few_flags : length (flags_of (all_say lines)) ≤ 256
  few_notes : count_by notifies (all_say lines) ≤ 65536

no-fault : (before : List (List ℕ)) (line : List ℕ) (rest : List (List ℕ)) → AreSound (before ++ line ∷ rest) → fault_of before line ≡ None
unfolding fault_of
no-fault before line rest sound =
    let fairs = fair-front before line rest sound.fair in
    let fair : IsFair line = fairs.1 in
    let said : List Says = all_say before in
    let one : Says = says line in
    let kept : is_kept one ≡ true = ap is_kept fair.is.told ∙ fair.kept in
    let whole : all_say (before ++ line ∷ rest) ≡ said ++ one ∷ all_say rest = say-append before (line ∷ rest) in
    let split : all_say (before ++ line ∷ rest) ≡ (said ++ one ∷ []) ++ all_say rest = whole ∙ sym (append_assoc said (one ∷ []) (all_say rest)) in
    let names : section_names (all_say (before ++ line ∷ rest)) ≡ section_names said ++ cons_option (opened_name one) (section_names (all_say rest))
    = ap section_names whole ∙ filter_map-append opened_name said (one ∷ all_say rest) in
    let few : are_too_many (said ++ one ∷ []) ≡ false = few-first (said ++ one ∷ []) (all_say rest)
    (subst (λ (all : List Says). length (section_names all) ≤ 256) split sound.few_names) (subst (λ (all : List Says). length (flags_of all) ≤ 256) split sound.few_flags)
    (subst (λ (all : List Says). count_by notifies all ≤ 65536) split sound.few_notes) in
    let short : length line ≤ 40 = fair.is.short in
    none-of (nat_lt LINE_BYTES_MAX (length line)) (is_utf8 line) (list_any (λ byte. byte == 0) line) (line_number before) (line_start before + utf8_valid_len line) (fault_said (line_number before) said one)
    (le-ltb LINE_BYTES_MAX (length line) (omega (arith, short))) (printed-utf8 line fair.is.printed) (printed-lacks 0 (omega arith) line fair.is.printed)
    (none-said (is_bad_meta said one) (lacks_session said one) (repeats_name said one) (are_too_many (said ++ one ∷ [])) (line_number before)
    (meta-none said one kept (quit-none before fairs.0)) (session-there said one (begun before line rest sound.first))
    (name-new said one (section_names (all_say rest)) (section_names (all_say (before ++ line ∷ rest))) names sound.apart) few)

sound-none : (lines : List (List ℕ)) → AreSound lines → HaveNoFault lines
sound-none lines sound before line rest e = no-fault before line rest (subst AreSound e sound)

-- Each flag that is awaited is signalled.

all-signalled : (signals : List (List ℕ)) (n : ℕ) (said : List Says) → list_all (has_name signals) (filter_map named_flag said) ≡ true → position_from (is_unsignalled signals) n said ≡ None
all-signalled signals n [] h = refl
all-signalled signals n (Awaits flag ∷ said) h =
    let parts = and_parts (has_name signals flag) (list_all (has_name signals) (filter_map named_flag said)) h in
    ap (λ (b : Bool). cond (not b) (Some n) (position_from (is_unsignalled signals) (n + 1) said)) parts.0 ∙ all-signalled signals (n + 1) said parts.1
all-signalled signals n (Signals flag ∷ said) h =
    all-signalled signals (n + 1) said (and_parts (has_name signals flag) (list_all (has_name signals) (filter_map named_flag said)) h).1
all-signalled signals n (SaysNothing ∷ said) h = all-signalled signals (n + 1) said h
all-signalled signals n (Opens name db ∷ said) h = all-signalled signals (n + 1) said h
all-signalled signals n (Runs command ∷ said) h = all-signalled signals (n + 1) said h
all-signalled signals n (Quits ∷ said) h = all-signalled signals (n + 1) said h
all-signalled signals n (NoMeta ∷ said) h = all-signalled signals (n + 1) said h

-- A drill.

abbrev lines_in : ℕ → ℕ → ℕ → ℕ → List (List ℕ)
lines_in seed sessions notes n = up_to (session_lines seed sessions notes) n

drill-starts : (seed sessions notes n : ℕ) → starts (lines_in seed sessions notes (suc n)) ≡ true
drill-starts seed sessions notes n = starts-up (session_lines seed sessions notes) n (ap is_opening (session-line 1 (omega arith)).told)

drill-sound : (seed sessions notes : ℕ) → 1 ≤ sessions → sessions ≤ 32 → notes ≤ 1000 → AreSound (lines_in seed sessions notes sessions)
drill-sound seed sessions notes some few noted =
    let all = drill-gist seed sessions notes sessions few noted few in
    let count : suc (sessions - 1) ≡ sessions = omega (arith, some) in
    let notes_of : count_by notifies (all_say (lines_in seed sessions notes sessions)) ≤ sessions * 2000 = all.few_notes in
    record {
      fair = all.fair;
      first = subst (λ (n : ℕ). starts (lines_in seed sessions notes n) ≡ true) count (drill-starts seed sessions notes (sessions - 1));
      apart = subst AreApart (sym all.named) (names-apart sessions few);
      few_names = omega (arith, ap length all.named, names-length sessions, few);
      few_flags = omega (arith, ap (λ (flags : List (List ℕ)). length (fold with_name [] flags)) all.flagged, few-flags sessions sessions (omega arith) few);
      few_notes = omega (arith, notes_of, few);
    }

lines-read : (text : List ℕ) (lines : List (List ℕ)) → lines_of text ≡ lines → length text ≤ INPUT_BYTES_MAX → AreSound lines → unsignalled (all_say lines) ≡ None
    → (scenario : Scenario) × ReadsAsScenario text (Ok scenario)
lines-read text lines cut within sound signalled =
    let there : has_section (all_say lines) ≡ true = has-section lines sound.first in (
      scenario_of (lines_of text),
      Faultless within (subst HaveNoFault (sym cut) (sound-none lines sound)) (ap (λ (l : List (List ℕ)). has_section (all_say l)) cut ∙ there) (ap (λ (l : List (List ℕ)). unsignalled (all_say l)) cut ∙ signalled),
    )

-- the text of a drill reads as a scenario with as many sessions
pub drill-reads : DrillReads
drill-reads seed sessions notes some few noted =
    let lines : List (List ℕ) = lines_in seed sessions notes sessions in
    let all = drill-gist seed sessions notes sessions few noted few in
    let most : length lines ≤ sessions * 6037 = all.few in
    let signalled : unsignalled (all_say lines) ≡ None =
    ap (λ (signals : List (List ℕ)). position_from (is_unsignalled signals) 1 (all_say lines)) all.signalled
    ∙ all-signalled (flags_to sessions) 1 (all_say lines) (ap (list_all (has_name (flags_to sessions))) all.flagged ∙ all-among sessions sessions (omega arith)) in
    lines-read (drill seed sessions notes) lines (lines-again lines all.fair) (omega (arith, joined-length lines all.fair, most, few)) (drill-sound seed sessions notes some few noted) signalled
