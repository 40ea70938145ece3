-- The least of a list, by its parts and lane by lane.
use Rattle.std.proofs.Common.{◌≡◌, ℕ, suc, ◌≤◌, min, Some, None, List, [], ◌∷◌, refl, ap, arith}
use Rattle.std.specs.Prelude.{All, Contains, ◌↔◌, zero}
use Rattle.std.proofs.Common.{subst, ⊎_elim}
use Rattle.std.proofs.lemmas.Bool.{cases_lt}
use Rattle.pgn_lanes.specs.Least.{lesser, plain_least}

-- ---- the least by its words
has_least : (x : ℕ) (xs : List ℕ) → Contains (x ∷ xs) (lesser x (plain_least xs))
has_least x [] = (0, omega arith, refl)
has_least x (y ∷ ys) =
    let r = has_least y ys in
    ⊎_elim (λ l. let e : x ≡ min x (lesser y (plain_least ys)) = omega arith in (0, omega arith, e))
    (λ ge.
    let e : lesser y (plain_least ys) ≡ min x (lesser y (plain_least ys)) = omega arith in
    let later = subst (λ (m : ℕ). Contains (y ∷ ys) m) e r in (suc later.0, omega (arith, later.1), later.2)) (cases_lt x (lesser y (plain_least ys)))

none_below : (x : ℕ) (xs : List ℕ) → All (λ word. lesser x (plain_least xs) ≤ word) (x ∷ xs)
none_below x [] zero d h = omega arith
none_below x [] (suc k) d h = absurd (omega arith)
none_below x (y ∷ ys) zero d h = omega arith
none_below x (y ∷ ys) (suc k) d h = let r = none_below y ys k d (omega arith) in omega arith

-- the least word is one of the words that none is below
pub least_is_least : (words : List ℕ) (least : ℕ) → (plain_least words ≡ Some least) ↔ (Contains words least × All (λ word. least ≤ word) words)
least_is_least [] least = (λ e. absurd (cc), λ h. absurd (omega (arith, h.0.1)))
least_is_least (x ∷ xs) least =
    let own = lesser x (plain_least xs) in
    let has = has_least x xs in
    let low = none_below x xs in (
      λ e. let same : own ≡ least = cc in (subst (λ (m : ℕ). Contains (x ∷ xs) m) same has, subst (λ (m : ℕ). All (λ word. m ≤ word) (x ∷ xs)) same low),
      λ h. let same : own ≡ least = omega (arith, low h.0.0 0 h.0.1, h.0.2, h.1 has.0 0 has.1, has.2) in ap Some same,
    )

-- only an empty list has no least word
pub only_empty_has_none : (words : List ℕ) → (plain_least words ≡ None) ↔ (words ≡ [])
only_empty_has_none [] = (λ e. refl, λ e. refl)
only_empty_has_none (x ∷ xs) = (λ e. absurd (cc), λ e. absurd (cc))
