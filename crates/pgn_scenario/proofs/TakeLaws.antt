-- A line that is taken makes one step.
use Rattle.std.proofs.Common.{◌≡◌, ℕ, zero, suc, ◌+◌, ◌≤◌, ◌==◌, Bool, true, false, cond, List, [], ◌∷◌, ◌++◌, length, Option, None, Some, Result, Ok, Err, OnOk, OnErr, sym, ap, ◌∙◌, refl, subst, arith, is_some, eq-eqb, IsUtf8}
use mir.Val.{bool_byte}
use Rattle.std.specs.Prelude.{IfSome, nat_lt, option_map, Contains}
use Rattle.std.specs.List.{list_any}
use Rattle.std.specs.Str.{is_utf8}
use Rattle.std.specs.Str.Lossy.{utf8_valid_len}
use Rattle.std.proofs.lemmas.Bool.{or_parts, false≢true, false_from_ne_true, le-ltb}
use Rattle.std.proofs.lemmas.List.Folds.{list_any_at}
use Rattle.std.proofs.lemmas.List.Elements.{Contains-append_left, Contains-append_right}
use Rattle.std.proofs.lemmas.Str.{IsUtf8-from_is_utf8, is_utf8-from_IsUtf8}
use Rattle.memchr.specs.Find.{IsFirstByte, is_byte}
use Rattle.pgn_base.specs.declared.limits.TheConstants.{FLAGS_MAX, LINE_BYTES_MAX, NOTE_LINES_MAX, SECTIONS_MAX}
use Rattle.pgn_base.specs.Names.{has_name}
use Rattle.pgn_language.specs.declared.scenario.Section.{Section}
use Rattle.pgn_language.specs.declared.scenario.ScriptLine.{ScriptLine}
use Rattle.pgn_language.specs.declared.scenario.ScenarioFault.{ScenarioFault}
use Rattle.pgn_language.specs.declared.scenario.ScenarioFault.TheVariants as fault
use Rattle.pgn_language.specs.declared.scenario.Act.TheVariants.{Run, Signal, Await, Quit}
use Rattle.pgn_language.specs.Lines.{Says, SaysNothing, Opens, Runs, Signals, Awaits, Quits, NoMeta, says, text_says, trimmed}
use Rattle.pgn_language.specs.laws.Inputs.{IsTextOf}
use Rattle.pgn_language.proofs.LineLaws.{is-trimmed}
use Rattle.pgn_language.specs.Inputs.{with_name, flag_number}
use Rattle.pgn_scenario.specs.Flags.{signalling, awaiting}
use Rattle.pgn_scenario.specs.Steps.{State, note_of, with_line, acted, added, after_ok, awaits, opened, passed, quits, running, signals, step, outcome, unless_many, IsCounted}
use Rattle.pgn_scenario.proofs.ByteLaws.{none_any}

-- a zero byte that is found, or is not
pub nul-found : (line : List ℕ) (found : Option ℕ) → IsFirstByte (is_byte 0) line found → is_some found ≡ true → list_any (λ byte. byte == 0) line ≡ true
nul-found line None h e = absurd (false≢true e)
nul-found line (Some at) h e = list_any_at (λ byte. byte == 0) line at 0 h.0.high h.1

-- a line in which no 0 is found has none
pub nul-none : (line : List ℕ) (found : Option ℕ) → IsFirstByte (is_byte 0) line found → is_some found ≡ false → list_any (λ byte. byte == 0) line ≡ false
nul-none line None h e = none_any 0 line (λ k l. h k (omega arith) l)
nul-none line (Some at) h e = absurd (false≢true (sym e))

not_contained : (bytes : List ℕ) → list_any (λ byte. byte == 0) bytes ≡ false → Contains bytes 0 → ⊥
not_contained [] h (k, within, is) = absurd (omega (arith, within))
not_contained (x ∷ bytes) h (zero, within, is) = false≢true (sym (or_parts (x == 0) (list_any (λ byte. byte == 0) bytes) h).0 ∙ eq-eqb x 0 is)
not_contained (x ∷ bytes) h (suc k, within, is) = not_contained bytes (or_parts (x == 0) (list_any (λ byte. byte == 0) bytes) h).1 (k, omega (arith, within), is)

-- a text has no zero byte where its line has none
pub text-no_nul : (line : List ℕ) → list_any (λ byte. byte == 0) line ≡ false → Contains (trimmed line) 0 → ⊥
text-no_nul line h c =
    let parts : IsTextOf line (trimmed line) = is-trimmed line in
    not_contained line h (subst (λ (l : List ℕ). Contains l 0) (sym parts.whole) (Contains-append_left (parts.before ++ trimmed line) parts.after 0 (Contains-append_right parts.before (trimmed line) 0 c)))

-- the steps of a line that is at fault by its bytes
pub step-not_utf8 : (s : State) (line : List ℕ) → length line ≤ LINE_BYTES_MAX → (IsUtf8 line → ⊥) → Err (fault.NotUtf8 (s.at + utf8_valid_len line)) ≡ step s line
step-not_utf8 s line l h =
    let short : nat_lt LINE_BYTES_MAX (length line) ≡ false = le-ltb LINE_BYTES_MAX (length line) l in
    let bad : is_utf8 line ≡ false = false_from_ne_true (is_utf8 line) (λ e. h (IsUtf8-from_is_utf8 line e)) in
    sym (rw (short, bad, step) refl)

-- a line with a 0 in it is a fault of that line
pub step-nul : (s : State) (line : List ℕ) → length line ≤ LINE_BYTES_MAX → IsUtf8 line → list_any (λ byte. byte == 0) line ≡ true → Err (fault.NulByte s.line) ≡ step s line
step-nul s line l u h =
    let short : nat_lt LINE_BYTES_MAX (length line) ≡ false = le-ltb LINE_BYTES_MAX (length line) l in
    let good : is_utf8 line ≡ true = is_utf8-from_IsUtf8 line u in
    sym (rw (short, good, h, step) refl)

-- A line makes no difference to where it begins.

unless-at : (s next u : State) (many : Bool) → next.at ≡ s.at → Ok u ≡ unless_many s many next → u.at ≡ s.at
unless-at s next u true same e = absurd (cc)
unless-at s next u false same e = let is : u ≡ next = cc in ap (λ (x : State). x.at) is ∙ same

opening-at : (s next u : State) (known many : Bool) → next.at ≡ s.at → Ok u ≡ cond known (Err (fault.SameName s.line)) (unless_many s many next) → u.at ≡ s.at
opening-at s next u true many same e = absurd (cc)
opening-at s next u false many same e = unless-at s next u many same e

within-at : (s u : State) (quit begun : Bool) (next : Result State ScenarioFault) → (Ok u ≡ next → u.at ≡ s.at)
    → Ok u ≡ cond quit (Err (fault.BadMeta s.line)) (cond begun next (Err (fault.NoSession s.line))) → u.at ≡ s.at
within-at s u true begun next h e = absurd (cc)
within-at s u false true next h e = h e
within-at s u false false next h e = absurd (cc)

-- what it makes begins there
pub added-at : (s u : State) (text : List ℕ) (said : Says) → Ok u ≡ added s text said → u.at ≡ s.at
added-at s u text SaysNothing e = let is : u ≡ s = cc in ap (λ (x : State). x.at) is
added-at s u text (Opens name db) e = opening-at s (opened s name db) u (has_name s.names name) (nat_lt SECTIONS_MAX (length s.names + 1)) refl e
added-at s u text (Runs command) e =
    within-at s u s.quit (is_some s.part) (running s text command) (unless-at s (acted s text (Run command)) u (nat_lt NOTE_LINES_MAX (s.notes + note_of (Run command))) refl) e
added-at s u text (Signals flag) e =
    within-at s u s.quit (is_some s.part) (signals s text flag)
    (unless-at s (acted (record s { flags = signalling s.flags flag }) text (Signal (flag_number s.flags.names flag))) u (nat_lt FLAGS_MAX (length (with_name s.flags.names flag))) refl) e
added-at s u text (Awaits flag) e =
    within-at s u s.quit (is_some s.part) (awaits s text flag)
    (unless-at s (acted (record s { flags = awaiting s.flags flag s.line }) text (Await (flag_number s.flags.names flag))) u (nat_lt FLAGS_MAX (length (with_name s.flags.names flag))) refl) e
added-at s u text Quits e = within-at s u s.quit (is_some s.part) (quits s text) (λ o. let is : u ≡ record (acted s text Quit) { quit = true } = cc in ap (λ (x : State). x.at) is) e
added-at s u text NoMeta e = absurd (cc)

after_outcome : (found : Option ScenarioFault) (f : State → State) (u : State) → outcome found (f u) ≡ after_ok f (outcome found u)
after_outcome None f u = refl
after_outcome (Some one) f u = refl

-- the step of another line
pub step-added : (s u t : State) (line text : List ℕ) (said : Says) (found : Option ScenarioFault) → length line ≤ LINE_BYTES_MAX → IsUtf8 line → list_any (λ byte. byte == 0) line ≡ false
    → text ≡ trimmed line → said ≡ text_says text → outcome found u ≡ added s text said → t ≡ passed (length line) u → outcome found t ≡ step s line
unfolding says
step-added s u t line text said found l valid h e k o p =
    let short : nat_lt LINE_BYTES_MAX (length line) ≡ false = le-ltb LINE_BYTES_MAX (length line) l in
    let good : is_utf8 line ≡ true = is_utf8-from_IsUtf8 line valid in
    let here : step s line ≡ after_ok (passed (length line)) (added s (trimmed line) (text_says (trimmed line))) = rw (short, good, h, step) refl in
    ap (outcome found) p ∙ after_outcome found (passed (length line)) u ∙ ap (after_ok (passed (length line))) (o ∙ ap (added s text) k ∙ ap (λ (x : List ℕ). added s x (text_says x)) e) ∙ sym here

-- a test as a number
pub byte_is : (b : Bool) → bool_byte b ≡ cond b 1 0
byte_is true = refl
byte_is false = refl

-- a line counts in its section as it counts among all
counted_line : (part : Option Section) (line : ScriptLine) (notes n : ℕ) → n ≡ note_of line.act → IfSome part (λ one. one.note_lines ≤ notes) → IfSome (option_map (with_line line) part) (λ one. one.note_lines ≤ notes + n)
counted_line None line notes n e h = tt
counted_line (Some one) line notes n e h = omega (arith, e, h)

counted_still : (part : Option Section) (notes n : ℕ) → IfSome part (λ one. one.note_lines ≤ notes) → IfSome part (λ one. one.note_lines ≤ notes + n)
counted_still None notes n h = tt
counted_still (Some one) notes n h = omega (arith, h)

-- the count of lines that notify stays right as a line is put into its section, or is not for want of memory
pub counted-pushed : {E : Type 0} (made : Result (Unit {0}) E) (part after : Option Section) (line : ScriptLine) (notes n : ℕ) → n ≡ note_of line.act → notes + n ≤ NOTE_LINES_MAX → IsCounted notes part
    → OnOk made (after ≡ option_map (with_line line) part) → OnErr made (after ≡ part) → IsCounted (notes + n) after
counted-pushed (Ok x) part after line notes n e l h o r = record { few = l; counted = subst (λ (p : Option Section). IfSome p (λ one. one.note_lines ≤ notes + n)) (sym o) (counted_line part line notes n e h.counted) }
counted-pushed (Err x) part after line notes n e l h o r = record { few = l; counted = subst (λ (p : Option Section). IfSome p (λ one. one.note_lines ≤ notes + n)) (sym r) (counted_still part notes n h.counted) }
