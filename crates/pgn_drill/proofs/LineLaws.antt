-- Lines that are put at the end of a text, one after another.
use Rattle.std.proofs.Common.{◌≡◌, ◌∙◌, ℕ, ◌+◌, ◌*◌, ◌-◌, ◌%◌, List, [], ◌∷◌, ◌++◌, refl, ap, sym, subst, append_assoc, append-nil, add-one, arith, codes, decimal}
use Rattle.pgn_model.specs.Text.{joined}
use Rattle.std.proofs.Math.Nat.{suc-mul}
use Rattle.pgn_drill.specs.Drill.{AddsLines, await_line, block_lines, next_state, notify_line, opening_lines, sent_lines, session_lines, state_after, up_to}

joined-append : (xs ys : List (List ℕ)) → joined (xs ++ ys) ≡ joined xs ++ joined ys
joined-append [] ys = refl
joined-append (x ∷ xs) ys = ap (λ (t : List ℕ). (x ++ 10 ∷ []) ++ t) (joined-append xs ys) ∙ sym (append_assoc (x ++ 10 ∷ []) (joined xs) (joined ys))

-- lines and then more lines
pub AddsLines-then : {a b c : List ℕ} {xs ys : List (List ℕ)} → AddsLines a b xs → AddsLines b c ys → AddsLines a c (xs ++ ys)
AddsLines-then {a} {b} {c} {xs} {ys} h k = record {
  bytes = k.bytes ∙ ap (λ (t : List ℕ). t ++ joined ys) h.bytes ∙ append_assoc a (joined xs) (joined ys) ∙ ap (λ (t : List ℕ). a ++ t) (sym (joined-append xs ys));
}

-- what was put at the end of a text are these lines
pub AddsLines-from : {a b : List ℕ} {lines : List (List ℕ)} (text : List ℕ) → joined lines ≡ text ++ [] → b ≡ a ++ text → AddsLines a b lines
AddsLines-from {a} {b} {lines} text same is = record { bytes = is ∙ ap (λ (t : List ℕ). a ++ t) (sym (append-nil text) ∙ sym same) }

-- the line that waits for a session
pub await-adds : (n : ℕ) (a b : List ℕ) → b ≡ a ++ (codes "\\await up" ++ decimal n ++ codes "\n") → AddsLines a b (await_line n)
await-adds n a b is = AddsLines-from (codes "\\await up" ++ decimal n ++ codes "\n") refl is

-- the line that sends a number
pub notify-adds : (j r : ℕ) (a b d : List ℕ) → b ≡ a ++ (codes "NOTIFY c" ++ decimal j ++ codes ", '") → d ≡ b ++ ([] ++ decimal r ++ codes "'\n") → AddsLines a d (notify_line j r ∷ [])
notify-adds j r a b d channel payload =
    let front : List ℕ = codes "NOTIFY c" ++ decimal j ++ codes ", '" in
    let back : List ℕ = decimal r ++ codes "'\n" in
    let same : joined (notify_line j r ∷ []) ≡ (front ++ back) ++ [] =
    ap (λ (t : List ℕ). t ++ []) (append_assoc (front ++ decimal r) (codes "'") (10 ∷ []) ∙ append_assoc front (decimal r) (codes "'\n")) in
    AddsLines-from (front ++ back) same (payload ∙ ap (λ (t : List ℕ). t ++ back) channel ∙ append_assoc a front back)

-- a block
pub block-adds : (j r : ℕ) (a b d e : List ℕ) → b ≡ a ++ codes "BEGIN\nSAVEPOINT s\nNOTIFY gone\nROLLBACK TO s\n" → AddsLines b d (notify_line j r ∷ []) → e ≡ d ++ codes "COMMIT\n"
    → AddsLines a e (block_lines j r)
block-adds j r a b d e begin sends commit =
    let first : AddsLines a b (codes "BEGIN" ∷ codes "SAVEPOINT s" ∷ codes "NOTIFY gone" ∷ codes "ROLLBACK TO s" ∷ []) =
    AddsLines-from (codes "BEGIN\nSAVEPOINT s\nNOTIFY gone\nROLLBACK TO s\n") refl begin in
    let last : AddsLines d e (codes "COMMIT" ∷ []) = AddsLines-from (codes "COMMIT\n") refl commit in
    AddsLines-then (AddsLines-then first sends) last

-- how a session begins
pub opening-adds : (sessions i : ℕ) (a b d e f g : List ℕ) → b ≡ a ++ (codes "\\session d" ++ decimal i ++ codes " 1\n") → d ≡ b ++ (codes "LISTEN c" ++ decimal (i % 4) ++ codes "\n")
    → e ≡ d ++ (codes "BEGIN\n\\signal up" ++ decimal i ++ codes "\n") → AddsLines e f (up_to await_line sessions) → g ≡ f ++ codes "COMMIT\n" → AddsLines a g (opening_lines sessions i)
opening-adds sessions i a b d e f g session listen signal waits commit =
    let named : joined ((codes "\\session d" ++ decimal i ++ codes " 1") ∷ []) ≡ (codes "\\session d" ++ decimal i ++ codes " 1\n") ++ [] =
    ap (λ (t : List ℕ). t ++ []) (append_assoc (codes "\\session d" ++ decimal i) (codes " 1") (10 ∷ [])) in
    let first : AddsLines a b ((codes "\\session d" ++ decimal i ++ codes " 1") ∷ []) =
    AddsLines-from (codes "\\session d" ++ decimal i ++ codes " 1\n") named session in
    let second : AddsLines b d ((codes "LISTEN c" ++ decimal (i % 4)) ∷ []) = AddsLines-from (codes "LISTEN c" ++ decimal (i % 4) ++ codes "\n") refl listen in
    let third : AddsLines d e (codes "BEGIN" ∷ (codes "\\signal up" ++ decimal i) ∷ []) =
    AddsLines-from (codes "BEGIN\n\\signal up" ++ decimal i ++ codes "\n") refl signal in
    let last : AddsLines f g (codes "COMMIT" ∷ []) = AddsLines-from (codes "COMMIT\n") refl commit in
    AddsLines-then (AddsLines-then (AddsLines-then (AddsLines-then first second) third) waits) last

-- no line
pub AddsLines-none : (a : List ℕ) → AddsLines a a []
AddsLines-none a = record { bytes = sym (append-nil a) }

pub up_to-none : (f : ℕ → List (List ℕ)) → up_to f 0 ≡ []
unfolding up_to
up_to-none f = refl

pub up_to-more : (f : ℕ → List (List ℕ)) (n : ℕ) → up_to f (n + 1) ≡ up_to f n ++ f (n + 1)
unfolding up_to
up_to-more f n = rw add-one refl

pub state_after-none : (seed : ℕ) → state_after seed 0 ≡ seed
unfolding state_after
state_after-none seed = refl

-- a state drawn once more is the next one
pub state_after-more : (seed n : ℕ) → state_after seed (n + 1) ≡ next_state (state_after seed n)
unfolding state_after
state_after-more seed n = rw add-one refl

-- no lines yet
pub AddsLines-start : (a : List ℕ) (f : ℕ → List (List ℕ)) → AddsLines a a (up_to f 0)
AddsLines-start a f = subst (λ (lines : List (List ℕ)). AddsLines a a lines) (sym (up_to-none f)) (AddsLines-none a)

-- the lines of one more
pub AddsLines-more : (a b c : List ℕ) (f : ℕ → List (List ℕ)) (n : ℕ) → AddsLines a b (up_to f n) → AddsLines b c (f (n + 1)) → AddsLines a c (up_to f (n + 1))
AddsLines-more a b c f n h k = subst (λ (lines : List (List ℕ)). AddsLines a c lines) (sym (up_to-more f n)) (AddsLines-then h k)

-- The draws of a session.

-- where the state after so many draws is drawn from it is the state after one more
pub state-step : (seed drawn k before now : ℕ) → before ≡ state_after seed (drawn + k) → now ≡ next_state before → now ≡ state_after seed (drawn + (k + 1))
state-step seed drawn k before now is moved =
    let more : drawn + k + 1 ≡ drawn + (k + 1) = omega arith in
    moved ∙ ap next_state is ∙ sym (state_after-more seed (drawn + k)) ∙ ap (state_after seed) more

-- after no further draw the state is what it was
pub state-start : (seed drawn state : ℕ) → state ≡ state_after seed drawn → state ≡ state_after seed (drawn + 0)
state-start seed drawn state is =
    let same : drawn ≡ drawn + 0 = omega arith in
    is ∙ ap (state_after seed) same

-- the seed is the state before the first session's draws
pub state-first : (seed notes : ℕ) → seed ≡ state_after seed (0 * notes)
state-first seed notes =
    let same : 0 ≡ 0 * notes = omega arith in
    sym (state_after-none seed) ∙ ap (state_after seed) same

-- one more session
pub session-step : (seed sessions notes i state after : ℕ) (a b d : List ℕ) → state ≡ state_after seed (i * notes)
    → AddsLines [] a (up_to (session_lines seed sessions notes) i) → AddsLines a b (opening_lines sessions (i + 1))
    → ((start drawn : ℕ) → state ≡ state_after start drawn → (after ≡ state_after start (drawn + notes)) × AddsLines b d (up_to (sent_lines start drawn) notes))
    → (after ≡ state_after seed ((i + 1) * notes)) × AddsLines [] d (up_to (session_lines seed sessions notes) (i + 1))
session-step seed sessions notes i state after a b d is so_far opens sends =
    let sent = sends seed (i * notes) is in
    let drawn : i * notes + notes ≡ (i + 1) * notes = rw add-one (sym (suc-mul i notes)) in
    let before : i ≡ (i + 1) - 1 = omega arith in
    let here = subst (λ (n : ℕ). AddsLines a d (opening_lines sessions (i + 1) ++ up_to (sent_lines seed (n * notes)) notes)) before (AddsLines-then opens sent.1) in
    (sent.0 ∙ ap (state_after seed) drawn, AddsLines-more [] a d (session_lines seed sessions notes) i so_far here)
