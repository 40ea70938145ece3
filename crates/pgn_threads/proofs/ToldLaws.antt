-- Numbers of which each hears the greater of itself and its neighbour: up the list and down again, all are the greatest.
use Rattle.std.proofs.Common.{◌≡◌, ◌≢◌, ℕ, ◌+◌, ◌-◌, ◌<◌, ◌≤◌, max, List, length, inl, inr, ap, ◌∙◌, arith, length-set}
use Rattle.std.proofs.lemmas.Bool.Decides.{eqb_tells}
use Rattle.std.proofs.lemmas.Bool.{cases_lt}
use Rattle.std.proofs.lemmas.List.{get_or-set_same, get_or-set_other}
use Rattle.pgn_threads.specs.Drain.{told_at, heard_up, heard_down, Rises, AreTop}

-- what the first ones were told rises still when one more has heard from the one before it
pub rises-on : (ts : List ℕ) (i : ℕ) → 0 < i → i < length ts → Rises ts i → Rises (heard_up ts i) (i + 1)
rises-on ts i first last h j lt =
    let top : ℕ = max (told_at ts i) (told_at ts (i - 1)) in
    let same : told_at (heard_up ts i) i ≡ top = get_or-set_same ts i top 0 last in
    let at_end : told_at (heard_up ts i) ((i + 1) - 1) ≡ top = ap (λ (n : ℕ). told_at (heard_up ts i) n) (omega arith) ∙ same in
    elim (eqb_tells j i) as (λ _. told_at (heard_up ts i) j ≤ told_at (heard_up ts i) ((i + 1) - 1)) [
      | inl is ↦ let here : told_at (heard_up ts i) j ≡ top = ap (λ (n : ℕ). told_at (heard_up ts i) n) is.1 ∙ same in omega (arith, here, at_end)
      | inr other ↦ let here : told_at (heard_up ts i) j ≡ told_at ts j = get_or-set_other ts i j top 0 other.1 in omega (arith, here, at_end, h j (less j i lt other.1))
    ]
  where
    less : (j i : ℕ) → j < i + 1 → j ≢ i → j < i
    less j i lt other = elim (cases_lt j i) as (λ _. j < i) [
      | inl below ↦ below
      | inr above ↦ let same : j ≡ i = omega (arith, lt, above) in absurd (other same)
    ]

-- where it rises to the last, the last knows the most
pub rises-top : (ts : List ℕ) (n i : ℕ) → length ts ≡ n → n ≤ i → i ≤ max 1 n → Rises ts i → AreTop ts (n - 1)
rises-top ts n i len past within h j from last k lt =
    let place : j ≡ i - 1 = omega (arith, len, past, within, from, last) in
    let less : k < i = omega (arith, len, past, lt) in
    let same : told_at ts j ≡ told_at ts (i - 1) = ap (λ (m : ℕ). told_at ts m) place in
    omega (arith, same, h k less)

-- who hears from one that knows the most knows the most
pub tops-on : (ts : List ℕ) (i : ℕ) → 0 < i → i < length ts → AreTop ts i → AreTop (heard_down ts i) (i - 1)
tops-on ts i first last h j from jlt k klt =
    let top : ℕ = max (told_at ts (i - 1)) (told_at ts i) in
    let new : List ℕ = heard_down ts i in
    let len : length new ≡ length ts = length-set ts (i - 1) top in
    let same : told_at new (i - 1) ≡ top = get_or-set_same ts (i - 1) top 0 (omega (arith, last)) in
    let is_top : told_at ts (i - 1) ≤ told_at ts i = h i (omega arith) last (i - 1) (omega (arith, last)) in
    let below : told_at new k ≤ told_at ts i =
    elim (eqb_tells k (i - 1)) as (λ _. told_at new k ≤ told_at ts i) [
      | inl is ↦ let here : told_at new k ≡ top = ap (λ (n : ℕ). told_at new n) is.1 ∙ same in omega (arith, here, is_top)
      | inr other ↦ let here : told_at new k ≡ told_at ts k = get_or-set_other ts (i - 1) k top 0 other.1 in omega (arith, here, h i (omega arith) last k (omega (arith, klt, len)))
    ] in
    let above : told_at ts i ≤ told_at new j =
    elim (eqb_tells j (i - 1)) as (λ _. told_at ts i ≤ told_at new j) [
      | inl is ↦ let here : told_at new j ≡ top = ap (λ (n : ℕ). told_at new n) is.1 ∙ same in omega (arith, here)
      | inr other ↦ let here : told_at new j ≡ told_at ts j = get_or-set_other ts (i - 1) j top 0 other.1 in omega (arith, here, h j (later j i from other.1) (omega (arith, jlt, len)) i last)
    ] in
    omega (arith, below, above)
  where
    later : (j i : ℕ) → i - 1 ≤ j → j ≢ i - 1 → i ≤ j
    later j i from other = elim (cases_lt j i) as (λ _. i ≤ j) [
      | inl below ↦ let same : j ≡ i - 1 = omega (arith, from, below) in absurd (other same)
      | inr above ↦ above
    ]
