-- A writer that decides about the seats one after another.
use Rattle.std.proofs.Common.{◌≡◌, ℕ, zero, suc, ◌-◌, ◌<◌, ◌≤◌, Bool, false, List, [], ◌∷◌, ◌++◌, length, take, replicate, map, set, get_or, slice_index_or, All, sym, refl, ap, ◌∙◌, subst, arith}
use Rattle.std.proofs.lemmas.List.{length-take-le, length-map}
use Rattle.std.proofs.Math.Seq.{take-suc, take-suc-set, set-append_seam, get_or-append_seam}
use Rattle.std.proofs.lemmas.List.Elements.{All-push}
use Rattle.pgn_base.specs.declared.format.Format.{Format}
use Rattle.pgn_journal.specs.declared.tx.Tx.{Tx}
use Rattle.pgn_journal.specs.Packing.{image}
use Rattle.pgn_words.specs.declared.pos_word.PosWord.{PosWord}
use Rattle.pgn_words.specs.declared.pos_word.PosWord.TheVariants as words
use Rattle.pgn_words.specs.Positions.{place_or, IsPositionIn}
use Rattle.pgn_words.specs.declared.view.Verdict.{Verdict}
use Rattle.pgn_words.specs.declared.view.Verdict.TheVariants.{Unseen, Decided}
use Rattle.pgn_words.specs.declared.view.View.{View}
use Rattle.pgn_words.specs.Waking.{verdict_of}
use Rattle.pgn_lanes.specs.Behind.{Marks, is_woken, plain_behind}
use Rattle.pgn_wordhub.specs.Wakes.{decided_as, deemed_as, signalled_as, Names}

-- of listeners, and then of others
behind_append : (head db : ℕ) (ps qs os rs : List ℕ) → length ps ≡ length os → plain_behind head db (ps ++ qs) (os ++ rs) ≡ plain_behind head db ps os ++ plain_behind head db qs rs
behind_append head db [] qs [] rs same = refl
behind_append head db [] qs (o ∷ os) rs same = absurd (omega (arith, same))
behind_append head db (p ∷ ps) qs [] rs same = absurd (omega (arith, same))
behind_append head db (p ∷ ps) qs (o ∷ os) rs same = ap (λ l. is_woken head db p o ∷ l) (behind_append head db ps qs os rs (omega (arith, same)))

-- there is an answer for each listener
pub behind_long : (head db : ℕ) (ps os : List ℕ) → length ps ≡ length os → length (plain_behind head db ps os) ≡ length ps
behind_long head db [] os same = refl
behind_long head db (p ∷ ps) [] same = absurd (omega (arith, same))
behind_long head db (p ∷ ps) (o ∷ os) same = ap suc (behind_long head db ps os (omega (arith, same)))

-- the verdicts of answers, and then of one more
verdicts_push : (answers : List Bool) (b : Bool) → map verdict_of (answers ++ b ∷ []) ≡ map verdict_of answers ++ verdict_of b ∷ []
verdicts_push [] b = refl
verdicts_push (a ∷ answers) b = ap (λ l. verdict_of a ∷ l) (verdicts_push answers b)

-- the seats up to one are decided, and then that one is
pub decides_next : (head db place own n seat : ℕ) (places dbs : List ℕ) → seat < n → length places ≡ n → length dbs ≡ n → own ≡ get_or dbs seat own
    → set (map verdict_of (plain_behind head db (take seat places) (take seat dbs)) ++ replicate (n - seat) Unseen) seat (verdict_of (is_woken head db place own))
    ≡ map verdict_of (plain_behind head db (take (suc seat) (set places seat place)) (take (suc seat) dbs)) ++ replicate (n - suc seat) Unseen
decides_next head db place own n seat places dbs below long_places long_dbs is =
    let ps = take seat places in
    let os = take seat dbs in
    let short_ps : length ps ≡ seat = length-take-le seat places (omega (arith, below, long_places)) in
    let short_os : length os ≡ seat = length-take-le seat dbs (omega (arith, below, long_dbs)) in
    let same : length ps ≡ length os = short_ps ∙ sym short_os in
    let answers = plain_behind head db ps os in
    let done = map verdict_of answers in
    let verdict = verdict_of (is_woken head db place own) in
    let size : length done ≡ seat = length-map answers verdict_of ∙ behind_long head db ps os same ∙ short_ps in
    let left : n - seat ≡ suc (n - suc seat) = omega (arith, below) in
    ap (λ k. set (done ++ replicate k Unseen) seat verdict) left
    ∙ ap (λ k. set (done ++ Unseen ∷ replicate (n - suc seat) Unseen) k verdict) (sym size)
    ∙ set-append_seam done Unseen (replicate (n - suc seat) Unseen) verdict
    ∙ sym (ap (λ l. map verdict_of l ++ replicate (n - suc seat) Unseen)
    (ap (λ l. plain_behind head db l (take (suc seat) dbs)) (take-suc-set places seat place (omega (arith, below, long_places)))
    ∙ ap (λ l. plain_behind head db (ps ++ place ∷ []) l) (take-suc dbs seat own (omega (arith, below, long_dbs)) ∙ ap (λ d. os ++ d ∷ []) (sym is))
    ∙ behind_append head db ps (place ∷ []) os (own ∷ []) same)
    ∙ ap (λ l. l ++ replicate (n - suc seat) Unseen) (verdicts_push answers (is_woken head db place own))
    ∙ append_one done verdict (replicate (n - suc seat) Unseen))
  where
    append_one : (xs : List Verdict) (b : Verdict) (ys : List Verdict) → (xs ++ b ∷ []) ++ ys ≡ xs ++ b ∷ ys
    append_one [] b ys = refl
    append_one (x ∷ xs) b ys = ap (λ l. x ∷ l) (append_one xs b ys)

-- the next seat was not looked at
pub unseen_next : (head db n seat : ℕ) (places dbs : List ℕ) → seat < n → length places ≡ n → length dbs ≡ n
    → get_or (map verdict_of (plain_behind head db (take seat places) (take seat dbs)) ++ replicate (n - seat) Unseen) seat Decided ≡ Unseen
unseen_next head db n seat places dbs below long_places long_dbs =
    let short_ps : length (take seat places) ≡ seat = length-take-le seat places (omega (arith, below, long_places)) in
    let short_os : length (take seat dbs) ≡ seat = length-take-le seat dbs (omega (arith, below, long_dbs)) in
    let answers = plain_behind head db (take seat places) (take seat dbs) in
    let done = map verdict_of answers in
    let size : length done ≡ seat = length-map answers verdict_of ∙ behind_long head db (take seat places) (take seat dbs) (short_ps ∙ sym short_os) ∙ short_ps in
    let left : n - seat ≡ suc (n - suc seat) = omega (arith, below) in
    ap (λ k. get_or (done ++ replicate k Unseen) seat Decided) left ∙ ap (λ k. get_or (done ++ Unseen ∷ replicate (n - suc seat) Unseen) k Decided) (sym size)
    ∙ get_or-append_seam done Unseen (replicate (n - suc seat) Unseen) Decided

-- a mask of answers, by other names for what they are about
pub marks_on : (mask : List ℕ) (h head d db : ℕ) (ps places os dbs : List ℕ) → Marks mask (plain_behind h d ps os) → h ≡ head → d ≡ db → ps ≡ places → os ≡ dbs → Marks mask (plain_behind head db places dbs)
marks_on mask h head d db ps places os dbs marks at of there theirs =
    subst (λ (l : List Bool). Marks mask l)
    (ap (λ n. plain_behind n d ps os) at ∙ ap (λ n. plain_behind head n ps os) of ∙ ap (λ l. plain_behind head db l os) there ∙ ap (λ l. plain_behind head db places l) theirs) marks

-- a mask of answers names the seats that need a wake by them
pub names_from : (mask : List ℕ) (answers : List Bool) → Marks mask answers → Names mask (map verdict_of answers)
names_from mask answers marks i = mapped answers i ∙ ap verdict_of (sym (marks i))
  where
    mapped : (bs : List Bool) (k : ℕ) → get_or (map verdict_of bs) k Decided ≡ verdict_of (slice_index_or bs k false)
    mapped [] k = refl
    mapped (b ∷ bs) zero = refl
    mapped (b ∷ bs) (suc k) = mapped bs k

-- the place of a position is no later than the head
pub place_within : (format : Format) (seen : List Tx) (head : ℕ) (found : PosWord) → head ≡ length (image format seen) → IsPositionIn format seen found → place_or head found ≤ head
place_within format seen head words.Out is placed = omega arith
place_within format seen head words.Joining is placed = omega arith
place_within format seen head (words.At mark at) is placed = let before = placed.before in omega (arith, is, before)

-- places stay within the head
pub places_within : (head seat place : ℕ) (places : List ℕ) → seat < length places → All (λ p. p ≤ head) (take seat places) → place ≤ head → All (λ p. p ≤ head) (take (suc seat) (set places seat place))
places_within head seat place places below all le =
    subst (λ (l : List ℕ). All (λ p. p ≤ head) l) (sym (take-suc-set places seat place below)) (All-push (λ p. p ≤ head) (take seat places) place all le)

-- a list of databases has what it has, whatever stands past its end
pub owned_there : (owns : List ℕ) (seat d : ℕ) → seat < length owns → get_or owns seat d ≡ get_or owns seat 0
owned_there [] seat d below = absurd (omega (arith, below))
owned_there (o ∷ owns) zero d below = refl
owned_there (o ∷ owns) (suc seat) d below = owned_there owns seat d (omega (arith, below))

-- a pass that has loaded interests and then looked at each seat
pub decided : (v m w : View) (verdicts : List Verdict) → m ≡ deemed_as m.concerned v → w ≡ decided_as verdicts m → w ≡ signalled_as w.verdicts w.concerned v
decided v m w verdicts first second =
    second ∙ ap (decided_as verdicts) first
    ∙ ap (λ l. signalled_as l m.concerned v) (sym (ap (λ (u : View). u.verdicts) second)) ∙ ap (λ l. signalled_as w.verdicts l v) (sym (ap (λ (u : View). u.concerned) second))

-- and then set the wakes
pub signalled : (v m w : View) → m ≡ signalled_as m.verdicts m.concerned v → w ≡ decided_as w.verdicts m → w ≡ signalled_as w.verdicts w.concerned v
signalled v m w first second =
    second ∙ ap (decided_as w.verdicts) first ∙ ap (λ l. signalled_as w.verdicts l v) (sym (ap (λ (u : View). u.concerned) second))
