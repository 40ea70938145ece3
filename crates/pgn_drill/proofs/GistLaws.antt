-- What the lines of a drill say in all: the sections that they begin, the flags that they name and signal, and how many there are.
use Rattle.std.proofs.Common.{◌≡◌, ℕ, zero, suc, ◌+◌, ◌*◌, ◌-◌, ◌/◌, ◌%◌, ◌<◌, ◌≤◌, ◌==◌, Bool, true, false, cond, List, [], ◌∷◌, ◌++◌, length, codes, decimal, filter_map, count_by, Option, refl, ap, subst, ◌∙◌, arith, append-nil, length-append}
use Rattle.std.specs.List.{cons_option}
use Rattle.std.proofs.lemmas.Bool.{cond_both}
use Rattle.std.proofs.lemmas.List.Elements.{filter_map-append}
use Rattle.std.proofs.lemmas.List.Sums.{sum_by-append, sum_by-cons}
use Rattle.pgn_language.specs.Lines.{Says, NoMeta, Quits, says}
use Rattle.pgn_language.specs.Inputs.{all_say, named_flag, notifies, opened_name, section_names, signalled_flag}
use Rattle.pgn_drill.specs.Drill.{await_line, block_lines, draw, note_lines, notify_line, opening_lines, sent_lines, session_lines, state_after, up_to}
use Rattle.pgn_drill.proofs.LineLaws.{state_after-more}
use Rattle.pgn_drill.proofs.SayLaws.{IsLine, await-line, begin-line, commit-line, gone-line, listen-line, note-line, rollback-line, savepoint-line, session-line, signal-line}

-- the line may stand in a section: it is no `\quit`, and no meta line that is none
abbrev pub is_kept : Says → Bool
is_kept NoMeta = false
is_kept Quits = false
is_kept said = true

-- each line is one of a drill
pub record IsFair (line : List ℕ) : Type 0 where
  pub said : Says
  pub is : IsLine line said
  pub kept : is_kept said ≡ true

-- so it is with each of these lines
abbrev pub AreFair : List (List ℕ) → Type 0
AreFair [] = Unit {0}
AreFair (line ∷ lines) = IsFair line × AreFair lines

fair-append : (xs ys : List (List ℕ)) → AreFair xs → AreFair ys → AreFair (xs ++ ys)
fair-append [] ys h k = k
fair-append (x ∷ xs) ys h k = (h.0, fair-append xs ys h.1 k)

-- lines, the names of their sections, the flags that they name, those that they signal, and bounds on how many of them notify and how
-- many there are
pub record Gist (lines names flags signals : List (List ℕ)) (notes most : ℕ) : Type 0 where
  pub fair : AreFair lines
  pub named : section_names (all_say lines) ≡ names
  pub flagged : filter_map named_flag (all_say lines) ≡ flags
  pub signalled : filter_map signalled_flag (all_say lines) ≡ signals
  pub few_notes : count_by notifies (all_say lines) ≤ notes
  pub few : length lines ≤ most

-- what lines say together is what the first say and then the others
pub say-append : (xs ys : List (List ℕ)) → all_say (xs ++ ys) ≡ all_say xs ++ all_say ys
say-append [] ys = refl
say-append (x ∷ xs) ys = ap (λ (said : List Says). says x ∷ said) (say-append xs ys)

told-append : (tell : Says → Option (List ℕ)) (xs ys : List (List ℕ)) → filter_map tell (all_say (xs ++ ys)) ≡ filter_map tell (all_say xs) ++ filter_map tell (all_say ys)
told-append tell xs ys = ap (filter_map tell) (say-append xs ys) ∙ filter_map-append tell (all_say xs) (all_say ys)

told-both : (tell : Says → Option (List ℕ)) (xs ys a b : List (List ℕ)) → filter_map tell (all_say xs) ≡ a → filter_map tell (all_say ys) ≡ b → filter_map tell (all_say (xs ++ ys)) ≡ a ++ b
told-both tell xs ys a b h k =
    told-append tell xs ys ∙ ap (λ (t : List (List ℕ)). t ++ filter_map tell (all_say ys)) h ∙ ap (λ (t : List (List ℕ)). a ++ t) k

counted-append : (xs ys : List (List ℕ)) → count_by notifies (all_say (xs ++ ys)) ≡ count_by notifies (all_say xs) + count_by notifies (all_say ys)
counted-append xs ys = ap (count_by notifies) (say-append xs ys) ∙ sum_by-append (λ (said : Says). cond (notifies said) 1 0) (all_say xs) (all_say ys)

pub Gist-none : Gist [] [] [] [] 0 0
Gist-none = record { fair = tt; named = refl; flagged = refl; signalled = refl; few_notes = omega arith; few = omega arith }

-- lines and then more lines
pub Gist-then : (xs ys n m f g s t : List (List ℕ)) (i j k l : ℕ) → Gist xs n f s i k → Gist ys m g t j l → Gist (xs ++ ys) (n ++ m) (f ++ g) (s ++ t) (i + j) (k + l)
Gist-then xs ys n m f g s t i j k l h o =
    let notes_h : count_by notifies (all_say xs) ≤ i = h.few_notes in
    let notes_o : count_by notifies (all_say ys) ≤ j = o.few_notes in
    let lines_h : length xs ≤ k = h.few in
    let lines_o : length ys ≤ l = o.few in
    record {
      fair = fair-append xs ys h.fair o.fair;
      named = told-both opened_name xs ys n m h.named o.named;
      flagged = told-both named_flag xs ys f g h.flagged o.flagged;
      signalled = told-both signalled_flag xs ys s t h.signalled o.signalled;
      few_notes = omega (arith, counted-append xs ys, notes_h, notes_o);
      few = omega (arith, length-append xs ys, lines_h, lines_o);
    }

-- a line before lines
pub Gist-cons : (x : List ℕ) (said : Says) (xs n f s : List (List ℕ)) (i k : ℕ) → IsLine x said → is_kept said ≡ true → Gist xs n f s i k
    → Gist (x ∷ xs) (cons_option (opened_name said) n) (cons_option (named_flag said) f) (cons_option (signalled_flag said) s) (cond (notifies said) 1 0 + i) (1 + k)
Gist-cons x said xs n f s i k is kept h =
    let notes_h : count_by notifies (all_say xs) ≤ i = h.few_notes in
    let lines_h : length xs ≤ k = h.few in
    let same : says x ≡ said = is.told in
    let counted : count_by notifies (all_say (x ∷ xs)) ≡ cond (notifies said) 1 0 + count_by notifies (all_say xs) =
    sum_by-cons (λ (one : Says). cond (notifies one) 1 0) (says x) (all_say xs) ∙ ap (λ (one : Says). cond (notifies one) 1 0 + count_by notifies (all_say xs)) same in
    record {
      fair = (record { said = said; is = is; kept = kept }, h.fair);
      named = ap (λ (one : Says). cons_option (opened_name one) (section_names (all_say xs))) same ∙ ap (cons_option (opened_name said)) h.named;
      flagged = ap (λ (one : Says). cons_option (named_flag one) (filter_map named_flag (all_say xs))) same ∙ ap (cons_option (named_flag said)) h.flagged;
      signalled = ap (λ (one : Says). cons_option (signalled_flag one) (filter_map signalled_flag (all_say xs))) same ∙ ap (cons_option (signalled_flag said)) h.signalled;
      few_notes = omega (arith, counted, notes_h);
      few = omega (arith, lines_h);
    }

-- the same flags, and greater bounds
pub Gist-within : (xs n f g s : List (List ℕ)) (i j k l : ℕ) → f ≡ g → i ≤ j → k ≤ l → Gist xs n f s i k → Gist xs n g s j l
Gist-within xs n f g s i j k l e notes lines h =
    let notes_h : count_by notifies (all_say xs) ≤ i = h.few_notes in
    let lines_h : length xs ≤ k = h.few in
    record {
      fair = h.fair;
      named = h.named;
      flagged = h.flagged ∙ e;
      signalled = h.signalled;
      few_notes = omega (arith, notes_h, notes);
      few = omega (arith, lines_h, lines);
    }

-- the name of a session, and its flag
abbrev pub name_at : ℕ → List ℕ
name_at i = codes "d" ++ decimal i

-- the flag that a session of this number signals
abbrev pub flag_at : ℕ → List ℕ
flag_at i = codes "up" ++ decimal i

-- the names of the first n sessions, and their flags
abbrev pub names_to : ℕ → List (List ℕ)
names_to n = up_to (λ i. name_at i ∷ []) n

-- and their flags
abbrev pub flags_to : ℕ → List (List ℕ)
flags_to n = up_to (λ i. flag_at i ∷ []) n

-- all flags that the first n sessions name, of so many
abbrev pub flags_in : ℕ → ℕ → List (List ℕ)
flags_in sessions n = up_to (λ i. flag_at i ∷ flags_to sessions) n

-- the lines that wait
awaits-gist : (n : ℕ) → n ≤ 32 → Gist (up_to await_line n) [] (flags_to n) [] 0 n
unfolding up_to
awaits-gist zero l = Gist-none
awaits-gist (suc n) l =
    Gist-within (up_to await_line n ++ await_line (suc n)) [] (flags_to n ++ flag_at (suc n) ∷ []) (flags_to n ++ flag_at (suc n) ∷ []) [] 0 0 (n + 1) (suc n) refl (omega arith) (omega arith)
    (Gist-then (up_to await_line n) (await_line (suc n)) [] [] (flags_to n) (flag_at (suc n) ∷ []) [] [] 0 0 n 1 (awaits-gist n (omega (arith, l)))
    (Gist-cons (codes "\\await up" ++ decimal (suc n)) _ [] [] [] [] 0 0 (await-line (suc n) l) refl Gist-none))

-- how a session begins
opening-gist : (sessions i : ℕ) → sessions ≤ 32 → i ≤ 32 → Gist (opening_lines sessions i) (name_at i ∷ []) (flag_at i ∷ flags_to sessions) (flag_at i ∷ []) 0 (sessions + 5)
opening-gist sessions i few l =
    let head : List (List ℕ) = (codes "\\session d" ++ decimal i ++ codes " 1") ∷ (codes "LISTEN c" ++ decimal (i % 4)) ∷ codes "BEGIN" ∷ (codes "\\signal up" ++ decimal i) ∷ [] in
    let start : Gist head (name_at i ∷ []) (flag_at i ∷ []) (flag_at i ∷ []) 0 4 =
    Gist-cons (codes "\\session d" ++ decimal i ++ codes " 1") _ _ [] (flag_at i ∷ []) (flag_at i ∷ []) 0 3 (session-line i l) refl
    (Gist-cons (codes "LISTEN c" ++ decimal (i % 4)) _ _ [] (flag_at i ∷ []) (flag_at i ∷ []) 0 2 (listen-line (i % 4) (omega arith)) refl
    (Gist-cons (codes "BEGIN") _ _ [] (flag_at i ∷ []) (flag_at i ∷ []) 0 1 begin-line refl (Gist-cons (codes "\\signal up" ++ decimal i) _ [] [] [] [] 0 0 (signal-line i l) refl Gist-none))) in
    let waits : Gist (head ++ up_to await_line sessions) (name_at i ∷ []) (flag_at i ∷ flags_to sessions) (flag_at i ∷ []) 0 (4 + sessions) =
    Gist-then head (up_to await_line sessions) (name_at i ∷ []) [] (flag_at i ∷ []) (flags_to sessions) (flag_at i ∷ []) [] 0 0 4 sessions start (awaits-gist sessions few) in
    Gist-within (opening_lines sessions i) (name_at i ∷ []) (flag_at i ∷ (flags_to sessions ++ [])) (flag_at i ∷ flags_to sessions) (flag_at i ∷ []) 0 0 (4 + sessions + 1) (sessions + 5)
    (ap (λ (flags : List (List ℕ)). flag_at i ∷ flags) (append-nil (flags_to sessions))) (omega arith) (omega arith)
    (Gist-then (head ++ up_to await_line sessions) (codes "COMMIT" ∷ []) (name_at i ∷ []) [] (flag_at i ∷ flags_to sessions) [] (flag_at i ∷ []) [] 0 0 (4 + sessions) 1 waits
    (Gist-cons (codes "COMMIT") _ [] [] [] [] 0 0 commit-line refl Gist-none))

-- a notification
note-gist : (j r : ℕ) → j < 4 → r < 10000000000 → Gist (notify_line j r ∷ []) [] [] [] 1 1
note-gist j r l small = Gist-cons (notify_line j r) _ [] [] [] [] 0 0 (note-line j r l small) refl Gist-none

block-gist : (j r : ℕ) → j < 4 → r < 10000000000 → Gist (block_lines j r) [] [] [] 2 6
block-gist j r l small =
    Gist-cons (codes "BEGIN") _ _ [] [] [] 2 5 begin-line refl
    (Gist-cons (codes "SAVEPOINT s") _ _ [] [] [] 2 4 savepoint-line refl
    (Gist-cons (codes "NOTIFY gone") _ _ [] [] [] 1 3 gone-line refl
    (Gist-cons (codes "ROLLBACK TO s") _ _ [] [] [] 1 2 rollback-line refl
    (Gist-cons (notify_line j r) _ _ [] [] [] 0 1 (note-line j r l small) refl
    (Gist-cons (codes "COMMIT") _ [] [] [] [] 0 0 commit-line refl Gist-none)))))

sent-gist : (j r : ℕ) → j < 4 → r < 10000000000 → Gist (note_lines j r) [] [] [] 2 6
sent-gist j r l small =
    cond_both (r % 2 == 0) (notify_line j r ∷ []) (block_lines j r) (λ (lines : List (List ℕ)). Gist lines [] [] [] 2 6)
    (λ e. Gist-within (notify_line j r ∷ []) [] [] [] [] 1 2 1 6 refl (omega arith) (omega arith) (note-gist j r l small)) (λ e. block-gist j r l small)

-- a number that is drawn has at most ten digits
drawn-small : (before now : ℕ) → now ≡ before % 18446744073709551616 → now / 8589934592 < 10000000000
drawn-small before now e = omega (arith, e)

draw-small : (seed n : ℕ) → draw seed (n + 1) < 10000000000
draw-small seed n = drawn-small (state_after seed n * 6364136223846793005 + 1442695040888963407) (state_after seed (n + 1)) (state_after-more seed n)

-- the notifications of a session
sends-gist : (seed drawn n : ℕ) → Gist (up_to (sent_lines seed drawn) n) [] [] [] (n * 2) (n * 6)
unfolding up_to
sends-gist seed drawn zero = Gist-none
sends-gist seed drawn (suc n) =
    let at : drawn + n + 1 ≡ drawn + suc n = omega arith in
    let small : draw seed (drawn + suc n) < 10000000000 = subst (λ (k : ℕ). draw seed k < 10000000000) at (draw-small seed (drawn + n)) in
    Gist-within (up_to (sent_lines seed drawn) n ++ sent_lines seed drawn (suc n)) [] [] [] [] (n * 2 + 2) (suc n * 2) (n * 6 + 6) (suc n * 6) refl (omega arith) (omega arith)
    (Gist-then (up_to (sent_lines seed drawn) n) (sent_lines seed drawn (suc n)) [] [] [] [] [] [] (n * 2) 2 (n * 6) 6 (sends-gist seed drawn n)
    (sent-gist (suc n % 4) (draw seed (drawn + suc n)) (omega arith) small))

-- a session
session-gist : (seed sessions notes i : ℕ) → sessions ≤ 32 → notes ≤ 1000 → i ≤ 32
    → Gist (session_lines seed sessions notes i) (name_at i ∷ []) (flag_at i ∷ flags_to sessions) (flag_at i ∷ []) 2000 6037
session-gist seed sessions notes i few noted l =
    Gist-within (session_lines seed sessions notes i) (name_at i ∷ []) ((flag_at i ∷ flags_to sessions) ++ []) (flag_at i ∷ flags_to sessions) (flag_at i ∷ [])
    (0 + notes * 2) 2000 (sessions + 5 + notes * 6) 6037 (append-nil (flag_at i ∷ flags_to sessions)) (omega (arith, noted)) (omega (arith, noted, few))
    (Gist-then (opening_lines sessions i) (up_to (sent_lines seed ((i - 1) * notes)) notes) (name_at i ∷ []) [] (flag_at i ∷ flags_to sessions) [] (flag_at i ∷ []) [] 0 (notes * 2) (sessions + 5) (notes * 6)
    (opening-gist sessions i few l) (sends-gist seed ((i - 1) * notes) notes))

-- all sessions
pub drill-gist : (seed sessions notes n : ℕ) → sessions ≤ 32 → notes ≤ 1000 → n ≤ 32
    → Gist (up_to (session_lines seed sessions notes) n) (names_to n) (flags_in sessions n) (flags_to n) (n * 2000) (n * 6037)
unfolding up_to
drill-gist seed sessions notes zero few noted l = Gist-none
drill-gist seed sessions notes (suc n) few noted l =
    let before = up_to (session_lines seed sessions notes) n in
    Gist-within (before ++ session_lines seed sessions notes (suc n)) (names_to n ++ name_at (suc n) ∷ []) (flags_in sessions n ++ (flag_at (suc n) ∷ flags_to sessions))
    (flags_in sessions n ++ (flag_at (suc n) ∷ flags_to sessions)) (flags_to n ++ flag_at (suc n) ∷ []) (n * 2000 + 2000) (suc n * 2000) (n * 6037 + 6037) (suc n * 6037) refl (omega arith) (omega arith)
    (Gist-then before (session_lines seed sessions notes (suc n)) (names_to n) (name_at (suc n) ∷ []) (flags_in sessions n) (flag_at (suc n) ∷ flags_to sessions) (flags_to n) (flag_at (suc n) ∷ [])
    (n * 2000) 2000 (n * 6037) 6037 (drill-gist seed sessions notes n few noted (omega (arith, l))) (session-gist seed sessions notes (suc n) few noted l))
