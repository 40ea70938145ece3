-- Who is woken, lane by lane and bit by bit.
use Rattle.std.proofs.Common.{◌≡◌, ◌↔◌, ℕ, zero, suc, ◌+◌, ◌-◌, ◌*◌, ◌/◌, ◌%◌, ◌^◌, ◌<◌, ◌≤◌, min, Bool, true, false, not, cond, ltb, leb, eqb, List, [], ◌∷◌, ◌++◌, length, take, drop, get_or, set, replicate, refl, sym, ap, ◌∙◌, ⊎_elim, arith}
use Rattle.std.specs.Prelude.{All, bit_or}
use Rattle.std.specs.Int.{bit_at, from_bool}
use Rattle.std.specs.Simd.Lanes.{mask_l, zip2, sel_l, chunk}
use Rattle.std.proofs.lemmas.Simd.{bit_mask_l, mask_l-lt, mask_l-mod}
use Rattle.std.proofs.lemmas.Nat.{or_disjoint, and_comm}
use Rattle.std.proofs.Math.Nat.{two-pow-succ}
use Rattle.std.proofs.Math.Seq.{take-add}
use Rattle.std.proofs.lemmas.Nat.Bits.{bit_at-zero}
use Rattle.std.proofs.lemmas.List.{length-take, get_or-take, get_or-drop, get_or_past, get_or-set_other, get_or-set_same}
use Rattle.std.proofs.Common.{pow_mono, subst, drop-cons, ◌≢◌}
use Rattle.std.specs.Int.Bits.{and_shifted}
use Rattle.std.proofs.lemmas.Bool.{cases_lt, leb-true, ltb-true, ltb-false}
use Rattle.std.proofs.lemmas.Bool.Decides.{nat_tests}
use Rattle.pgn_lanes.specs.Behind.{page_of, pages_behind, is_woken, plain_behind, mask_bit, Marks}

-- the bits below a word tell their answers, and the words from it on are zero
pub record IsMarked (answers : List Bool) (word : ℕ) (mask : List ℕ) : Type 0 where
  pub bits : (i : ℕ) → i < word * 64 → mask_bit mask i ≡ get_or answers i false
  pub clear : (k : ℕ) → word ≤ k → get_or mask k 0 ≡ 0

-- a position below a limit that is the head or that of other databases
below_far : (head far p : ℕ) → (p < far) ↔ (page_of p + pages_behind ≤ page_of head) → ltb p far ≡ leb (page_of p + pages_behind) (page_of head)
below_far head far p h = elim (ltb p far) as (λ b. ltb p far ≡ b → b ≡ leb (page_of p + pages_behind) (page_of head)) [
  | true ↦ λ e. let l : page_of p + pages_behind ≤ page_of head = h.0 (ltb-true p far e) in grind (arith, nat_tests)
  | false ↦ λ e. elim (leb (page_of p + pages_behind) (page_of head)) as (λ b. leb (page_of p + pages_behind) (page_of head) ≡ b → false ≡ b) [
    | true ↦ λ f. let l : p < far = h.1 (leb-true (page_of p + pages_behind) (page_of head) f) in absurd (omega (arith, ltb-false p far e))
    | false ↦ λ f. refl
  ] refl
] refl

below_head : (head p : ℕ) → p ≤ head → ltb p head ≡ not (eqb p head)
below_head head p h = grind (arith, nat_tests)

woken_one : (head db far p d : ℕ) → ((p : ℕ) → (p < far) ↔ (page_of p + pages_behind ≤ page_of head)) → p ≤ head → ltb p (cond (eqb d db) head far) ≡ is_woken head db p d
woken_one head db far p d h le = elim (eqb d db) as (λ b. ltb p (cond b head far) ≡ cond b (not (eqb p head)) (leb (page_of p + pages_behind) (page_of head))) [
  | true ↦ below_head head p le
  | false ↦ below_far head far p (h p)
]

-- each lane is compared with its own limit
woken_lanes : (head db far n : ℕ) (ps ds : List ℕ) → length ps ≡ n → length ds ≡ n → ((p : ℕ) → (p < far) ↔ (page_of p + pages_behind ≤ page_of head)) → All (λ p. p ≤ head) ps
    → zip2 ltb ps (sel_l (zip2 eqb ds (replicate n db)) (replicate n head) (replicate n far)) ≡ plain_behind head db ps ds
woken_lanes head db far n [] [] long same h le = refl
woken_lanes head db far n [] (d ∷ ds) long same h le = absurd (omega arith)
woken_lanes head db far n (p ∷ ps) [] long same h le = absurd (omega arith)
woken_lanes head db far zero (p ∷ ps) (d ∷ ds) long same h le = absurd (omega arith)
woken_lanes head db far (suc n) (p ∷ ps) (d ∷ ds) long same h le =
    let first = woken_one head db far p d h (le 0 0 (omega arith)) in
    let rest = woken_lanes head db far n ps ds (omega arith) (omega arith) h (λ k x l. le (suc k) x (omega arith)) in
    (λ i. first i ∷ rest i)

-- there is an answer for each listener
pub length-plain_behind : (head db : ℕ) (ps ds : List ℕ) → length ps ≡ length ds → length (plain_behind head db ps ds) ≡ length ps
length-plain_behind head db [] ds h = refl
length-plain_behind head db (p ∷ ps) [] h = absurd (omega arith)
length-plain_behind head db (p ∷ ps) (d ∷ ds) h = let r = length-plain_behind head db ps ds (omega arith) in omega arith

-- the lanes' comparison gives the same bits as a test of one listener after another
pub mask_of_woken : (head db far n : ℕ) (ps ds : List ℕ) → length ps ≡ n → length ds ≡ n → n ≤ 64 → ((p : ℕ) → (p < far) ↔ (page_of p + pages_behind ≤ page_of head)) → All (λ p. p ≤ head) ps
    → mask_l (zip2 ltb ps (sel_l (zip2 eqb ds (replicate n db)) (replicate n head) (replicate n far))) % 2 ^ 64 ≡ mask_l (plain_behind head db ps ds)
mask_of_woken head db far n ps ds long same small h le =
    ap (λ (ms : List Bool). mask_l ms % 2 ^ 64) (woken_lanes head db far n ps ds long same h le)
    ∙ mask_l-mod (plain_behind head db ps ds) 64 (omega (arith, length-plain_behind head db ps ds (long ∙ sym same)))

-- ---- the marks of listeners one after another
plain_behind-append : (head db : ℕ) (ps qs ds es : List ℕ) → length ps ≡ length ds → plain_behind head db (ps ++ qs) (ds ++ es) ≡ plain_behind head db ps ds ++ plain_behind head db qs es
plain_behind-append head db [] qs [] es h = refl
plain_behind-append head db [] qs (d ∷ ds) es h = absurd (omega arith)
plain_behind-append head db (p ∷ ps) qs [] es h = absurd (omega arith)
plain_behind-append head db (p ∷ ps) qs (d ∷ ds) es h = ap (λ (l : List Bool). is_woken head db p d ∷ l) (plain_behind-append head db ps qs ds es (omega arith))

mask_l-append : (xs ys : List Bool) → mask_l (xs ++ ys) ≡ mask_l xs + 2 ^ length xs * mask_l ys
mask_l-append [] ys = omega arith
mask_l-append (x ∷ xs) ys =
    let r = mask_l-append xs ys in
    let p = ap (λ (k : ℕ). k * mask_l ys) (two-pow-succ (length xs)) in
    omega arith

or_shifted : (a b n : ℕ) → a < 2 ^ n → bit_or a (b * 2 ^ n) ≡ a + 2 ^ n * b
or_shifted a b n h = or_disjoint a (b * 2 ^ n) (and_comm a (b * 2 ^ n) ∙ and_shifted b n a h) ∙ (let e : a + b * 2 ^ n ≡ a + 2 ^ n * b = omega arith in e)

-- a mask, and the mask of the next listeners above it
pub marks_step : (head db : ℕ) (ps ds : List ℕ) (at n m next : ℕ) → length ps ≡ length ds → at + n ≤ length ps → at + n ≤ 64 → m ≡ mask_l (plain_behind head db (take at ps) (take at ds))
    → next ≡ mask_l (plain_behind head db (chunk at n ps) (chunk at n ds)) → bit_or m (next * 2 ^ at % 2 ^ 64) ≡ mask_l (plain_behind head db (take (at + n) ps) (take (at + n) ds))
marks_step head db ps ds at n m next same room small is is_next =
    let front = plain_behind head db (take at ps) (take at ds) in
    let more = plain_behind head db (chunk at n ps) (chunk at n ds) in
    let whole = plain_behind head db (take (at + n) ps) (take (at + n) ds) in
    let long : length (take at ps) ≡ length (take at ds) = omega (arith, length-take at ps, length-take at ds) in
    let front_long : length front ≡ at = length-plain_behind head db (take at ps) (take at ds) long ∙ (let e : length (take at ps) ≡ at = omega (arith, length-take at ps) in e) in
    let joined : whole ≡ front ++ more =
    (λ i. plain_behind head db (take-add at n ps i) (take-add at n ds i)) ∙ plain_behind-append head db (take at ps) (chunk at n ps) (take at ds) (chunk at n ds) long
    in
    let value : mask_l whole ≡ mask_l front + 2 ^ at * mask_l more =
    ap mask_l joined ∙ mask_l-append front more ∙ ap (λ (k : ℕ). mask_l front + 2 ^ k * mask_l more) front_long
    in
    let whole_long : length whole ≤ 64 = omega (arith, length-plain_behind head db (take (at + n) ps) (take (at + n) ds), length-take (at + n) ps, length-take (at + n) ds) in
    let fits : mask_l whole < 2 ^ 64 = omega (arith, mask_l-lt whole, pow_mono {i = length whole} {j = 64} whole_long) in
    let low : m < 2 ^ at = subst (λ (k : ℕ). m < 2 ^ k) front_long (omega (arith, mask_l-lt front)) in
    let shifted : next * 2 ^ at % 2 ^ 64 ≡ next * 2 ^ at = let e : next * 2 ^ at < 2 ^ 64 = subst (λ (k : ℕ). k * 2 ^ at < 2 ^ 64) (sym is_next) (omega arith) in omega arith in
    ap (bit_or m) shifted ∙ or_shifted m next at low ∙ (λ i. is i + 2 ^ at * is_next i) ∙ sym value

chunk-one : (at : ℕ) (xs : List ℕ) (d : ℕ) → at < length xs → chunk at 1 xs ≡ get_or xs at d ∷ []
chunk-one at xs d h = ap (take 1) (drop-cons xs at d h)

mask_of_one : (b : Bool) → from_bool b ≡ mask_l (b ∷ [])
mask_of_one true = refl
mask_of_one false = refl

-- the mask of one listener
pub marks_one : (head db : ℕ) (ps ds : List ℕ) (at : ℕ) (woken : Bool) → at < length ps → at < length ds → woken ≡ is_woken head db (get_or ps at 0) (get_or ds at 0)
    → from_bool woken ≡ mask_l (plain_behind head db (chunk at 1 ps) (chunk at 1 ds))
marks_one head db ps ds at woken l k is =
    let one : plain_behind head db (chunk at 1 ps) (chunk at 1 ds) ≡ woken ∷ [] =
    (λ i. plain_behind head db (chunk-one at ps 0 l i) (chunk-one at ds 0 k i)) ∙ ap (λ (b : Bool). b ∷ []) (sym is)
    in
    mask_of_one woken ∙ sym (ap mask_l one)

-- ---- the words of a mask
plain_behind-take : (head db n : ℕ) (ps ds : List ℕ) → plain_behind head db (take n ps) (take n ds) ≡ take n (plain_behind head db ps ds)
plain_behind-take head db zero ps ds = refl
plain_behind-take head db (suc n) [] ds = refl
plain_behind-take head db (suc n) (p ∷ ps) [] = refl
plain_behind-take head db (suc n) (p ∷ ps) (d ∷ ds) = ap (λ (l : List Bool). is_woken head db p d ∷ l) (plain_behind-take head db n ps ds)

none_listed : (head db : ℕ) (ps : List ℕ) → plain_behind head db ps [] ≡ []
none_listed head db [] = refl
none_listed head db (p ∷ ps) = refl

plain_behind-drop : (head db n : ℕ) (ps ds : List ℕ) → plain_behind head db (drop n ps) (drop n ds) ≡ drop n (plain_behind head db ps ds)
plain_behind-drop head db zero ps ds = refl
plain_behind-drop head db (suc n) [] ds = refl
plain_behind-drop head db (suc n) (p ∷ ps) [] = none_listed head db (drop n ps)
plain_behind-drop head db (suc n) (p ∷ ps) (d ∷ ds) = plain_behind-drop head db n ps ds

bit_tells : (b : Bool) → eqb (cond b 1 0) 1 ≡ b
bit_tells true = refl
bit_tells false = refl

-- a bit of the mask of the listeners of one word
pub word_bit : (head db : ℕ) (ps ds : List ℕ) (from to v : ℕ) → length ps ≡ length ds → to ≡ min (length ps) (from + 64)
    → v ≡ mask_l (plain_behind head db (take (to - from) (drop from ps)) (take (to - from) (drop from ds)))
    → (j : ℕ) → j < 64 → eqb (bit_at v j) 1 ≡ get_or (plain_behind head db ps ds) (from + j) false
word_bit head db ps ds from to v same ends is j l =
    let n = to - from in
    let answers = plain_behind head db ps ds in
    let long = length-plain_behind head db ps ds same in
    let marks = plain_behind head db (take n (drop from ps)) (take n (drop from ds)) in
    let cut : marks ≡ take n (drop from answers) = plain_behind-take head db n (drop from ps) (drop from ds) ∙ ap (take n) (plain_behind-drop head db from ps ds) in
    let bit : bit_at v j ≡ cond (get_or marks j false) 1 0 = ap (λ (x : ℕ). bit_at x j) is ∙ bit_mask_l marks j in
    let there : get_or (take n (drop from answers)) j false ≡ get_or answers (from + j) false =
    ⊎_elim (λ h. get_or-take n (drop from answers) j false h ∙ get_or-drop from answers j false)
    (λ ge. get_or_past (take n (drop from answers)) j false (omega (arith, length-take n (drop from answers))) ∙ sym (get_or_past answers (from + j) false (omega (arith, long))))
    (cases_lt j n)
    in
    ap (λ (x : ℕ). eqb x 1) bit ∙ bit_tells (get_or marks j false) ∙ ap (λ (l : List Bool). get_or l j false) cut ∙ there

-- one word more
pub marked-word : (answers : List Bool) (mask : List ℕ) (w v : ℕ) → w < length mask → ((j : ℕ) → j < 64 → eqb (bit_at v j) 1 ≡ get_or answers (w * 64 + j) false)
    → IsMarked answers w mask → IsMarked answers (w + 1) (set mask w v)
marked-word answers mask w v room of_word marked = record {
  bits = λ i h.
      ⊎_elim (λ l.
      let other : i / 64 ≢ w = omega arith in
      ap (λ (x : ℕ). eqb (bit_at x (i % 64)) 1) (get_or-set_other mask w (i / 64) v 0 other) ∙ marked.bits i l) (λ ge.
      let same : i / 64 ≡ w = omega arith in
      let place : w * 64 + i % 64 ≡ i = omega arith in
      ap (λ (k : ℕ). eqb (bit_at (get_or (set mask w v) k 0) (i % 64)) 1) same ∙ ap (λ (x : ℕ). eqb (bit_at x (i % 64)) 1) (get_or-set_same mask w v 0 room)
      ∙ of_word (i % 64) (omega arith) ∙ ap (λ (k : ℕ). get_or answers k false) place) (cases_lt i (w * 64));
  clear = λ k le. let other : k ≢ w = omega arith in get_or-set_other mask w k v 0 other ∙ marked.clear k (omega arith);
}

-- a mask that is zero has no word yet
pub marked-none : (answers : List Bool) (mask : List ℕ) → All (λ word. word ≡ 0) mask → IsMarked answers 0 mask
marked-none answers mask clear = record {
  bits = λ i h. absurd (omega arith);
  clear = λ k le. ⊎_elim (λ l. clear k 0 l) (λ ge. get_or_past mask k 0 ge) (cases_lt k (length mask));
}

-- a mask that has all words tells each answer
pub marked-all : (answers : List Bool) (mask : List ℕ) (words : ℕ) → length answers ≤ words * 64 → IsMarked answers words mask → Marks mask answers
marked-all answers mask words all marked i =
    ⊎_elim (λ l. marked.bits i l) (λ ge.
    ap (λ (x : ℕ). eqb (bit_at x (i % 64)) 1) (marked.clear (i / 64) (omega arith)) ∙ ap (λ (x : ℕ). eqb x 1) (bit_at-zero (i % 64))
    ∙ sym (get_or_past answers i false (omega arith))) (cases_lt i (words * 64))

-- ---- each listener by itself
pub answer_of_each : (head db : ℕ) (ps ds : List ℕ) (i : ℕ) → length ps ≡ length ds → i < length ps → get_or (plain_behind head db ps ds) i false ≡ is_woken head db (get_or ps i 0) (get_or ds i 0)
answer_of_each head db [] ds i same h = absurd (omega arith)
answer_of_each head db (p ∷ ps) [] i same h = absurd (omega arith)
answer_of_each head db (p ∷ ps) (d ∷ ds) zero same h = refl
answer_of_each head db (p ∷ ps) (d ∷ ds) (suc i) same h = answer_of_each head db ps ds i (omega arith) (omega arith)

-- ---- the mask of at most 64 answers is one word
pub mask_of_answers : (answers : List Bool) → length answers ≤ 64 → Marks (mask_l answers ∷ []) answers
mask_of_answers answers short = marked-all answers (mask_l answers ∷ []) 1 (omega arith) (record {
  bits = λ i h.
      let word : i / 64 ≡ 0 = omega arith in
      let place : i % 64 ≡ i = omega arith in
      (λ k. eqb (bit_at (get_or (mask_l answers ∷ []) (word k) 0) (place k)) 1) ∙ ap (λ (x : ℕ). eqb x 1) (bit_mask_l answers i) ∙ bit_tells (get_or answers i false);
  clear = λ k le. get_or_past (mask_l answers ∷ []) k 0 (omega arith);
})
