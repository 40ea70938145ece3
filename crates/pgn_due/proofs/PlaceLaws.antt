-- Laws of places: the first of those that pass a test.
use Rattle.std.proofs.Common.{◌≡◌, ℕ, zero, suc, ◌+◌, ◌-◌, ◌<◌, ◌≤◌, Bool, true, false, List, [], ◌∷◌, None, Some, take, drop, filter, sym, ap, ◌∙◌, refl, inl, inr, arith}
use Rattle.std.specs.Prelude.{slice_get, cond}
use Rattle.std.proofs.lemmas.Bool.{cases_Bool, cases_lt, false≢true}
use Rattle.std.specs.List.{list_any}
use Rattle.pgn_due.specs.Places.{IsFirst, passes}

module _ {X : Type 0} (test : X → Bool) where
  -- the first, where one is known
  pub record Found (xs : List X) (from at : ℕ) : Type 0 where
    pub first : ℕ
    pub upto : first ≤ at
    pub is : IsFirst test xs from (Some first)

  found_here : (xs : List X) (from at : ℕ) → from ≤ at → passes test xs from ≡ true → Found xs from at
  found_here xs from at le here = record {
    first = from;
    upto = le;
    is = (omega arith, here, λ q ge lt. absurd (omega (arith, ge, lt)));
  }

  found_later : (xs : List X) (from at : ℕ) → passes test xs from ≡ false → Found xs (from + 1) at → Found xs from at
  found_later xs from at off next = record {
    first = next.first;
    upto = next.upto;
    is = (
      omega (arith, next.is.0),
      next.is.1,
      λ q ge lt. elim (cases_lt from q) [
        | inl more ↦ next.is.2 q (omega (arith, more)) lt
        | inr here ↦ ap (passes test xs) (let e : q ≡ from = omega (arith, ge, here) in e) ∙ off
      ],
    );
  }

  found_over : (xs : List X) (span from at : ℕ) → from + span ≡ at → passes test xs at ≡ true → Found xs from at
  found_over xs zero from at e h = found_here xs from at (omega (arith, e)) (ap (passes test xs) (let same : from ≡ at = omega (arith, e) in same) ∙ h)
  found_over xs (suc span) from at e h = elim (cases_Bool (passes test xs from)) [
    | inl here ↦ found_here xs from at (omega (arith, e)) here
    | inr off ↦ found_later xs from at off (found_over xs span (from + 1) at (omega (arith, e)) h)
  ]

  -- where the test passes at a place, there is a first one no later
  pub found : (xs : List X) (from at : ℕ) → from ≤ at → passes test xs at ≡ true → Found xs from at
  found xs from at le h = found_over xs (at - from) from at (omega (arith, le)) h

  -- there is one first
  pub same_first : (xs : List X) (from a b : ℕ) → IsFirst test xs from (Some a) → IsFirst test xs from (Some b) → a ≡ b
  same_first xs from a b p q = elim (cases_lt a b) [
    | inl lt ↦ absurd (false≢true (sym (q.2 a p.0 lt) ∙ p.1))
    | inr ge ↦ elim (cases_lt b a) [
      | inl lt ↦ absurd (false≢true (sym (p.2 b q.0 lt) ∙ q.1))
      | inr le ↦ (let e : a ≡ b = omega (arith, ge, le) in e)
    ]
  ]

  -- there is not both a first place and none
  pub no_first : (xs : List X) (from a : ℕ) → IsFirst test xs from None → IsFirst test xs from (Some a) → ⊥
  no_first xs from a none p = false≢true (sym (none a p.0) ∙ p.1)

  -- What stands between two places.

  -- where the test passes at no place between two, nothing is filtered between them
  pub none_between : (xs : List X) (from end : ℕ) → ((at : ℕ) → from ≤ at → at < end → passes test xs at ≡ false) → filter test (drop from (take end xs)) ≡ []
  none_between [] zero zero h = refl
  none_between [] zero (suc end) h = refl
  none_between [] (suc from) zero h = refl
  none_between [] (suc from) (suc end) h = refl
  none_between (x ∷ xs) zero zero h = refl
  none_between (x ∷ xs) zero (suc end) h =
      ap (λ (b : Bool). cond b (x ∷ filter test (take end xs)) (filter test (take end xs))) (h zero (omega arith) (omega arith)) ∙ none_between xs zero end (λ at ge lt. h (suc at) (omega arith) (omega (arith, lt)))
  none_between (x ∷ xs) (suc from) zero h = refl
  none_between (x ∷ xs) (suc from) (suc end) h = none_between xs from end (λ at ge lt. h (suc at) (omega (arith, ge)) (omega (arith, lt)))

  -- the first place at which the test passes, and what is filtered behind it
  pub first_between : (xs : List X) (from end at : ℕ) (x : X) → from ≤ at → at < end → slice_get xs at ≡ Some x → passes test xs at ≡ true → ((q : ℕ) → from ≤ q → q < at → passes test xs q ≡ false)
      → filter test (drop from (take end xs)) ≡ x ∷ filter test (drop (at + 1) (take end xs))
  first_between [] from end at x ge lt is here h = absurd (false≢true here)
  first_between (y ∷ xs) from zero at x ge lt is here h = absurd (omega (arith, lt))
  first_between (y ∷ xs) zero (suc end) zero x ge lt is here h =
      ap (λ (b : Bool). cond b (y ∷ filter test (take end xs)) (filter test (take end xs))) here ∙ ap (λ (z : X). z ∷ filter test (take end xs)) (let e : y ≡ x = cc in e)
  first_between (y ∷ xs) (suc from) (suc end) zero x ge lt is here h = absurd (omega (arith, ge))
  first_between (y ∷ xs) zero (suc end) (suc at) x ge lt is here h =
      ap (λ (b : Bool). cond b (y ∷ filter test (take end xs)) (filter test (take end xs))) (h zero (omega arith) (omega arith))
      ∙ first_between xs zero end at x (omega arith) (omega (arith, lt)) is here (λ q ge lt. h (suc q) (omega arith) (omega (arith, lt)))
      ∙ ap (λ (n : ℕ). x ∷ filter test (drop n (y ∷ take end xs))) (let e : suc (at + 1) ≡ suc at + 1 = omega arith in e)
  first_between (y ∷ xs) (suc from) (suc end) (suc at) x ge lt is here h =
      first_between xs from end at x (omega (arith, ge)) (omega (arith, lt)) is here (λ q ge lt. h (suc q) (omega (arith, ge)) (omega (arith, lt)))
      ∙ ap (λ (n : ℕ). x ∷ filter test (drop n (y ∷ take end xs))) (let e : suc (at + 1) ≡ suc at + 1 = omega arith in e)

  -- where the test passes at a place between two, something between them passes it
  pub any_between : (xs : List X) (from end at : ℕ) → from ≤ at → at < end → passes test xs at ≡ true → list_any test (drop from (take end xs)) ≡ true
  any_between [] from end at ge lt h = absurd (false≢true h)
  any_between (x ∷ xs) from zero at ge lt h = absurd (omega (arith, lt))
  any_between (x ∷ xs) (suc from) (suc end) zero ge lt h = absurd (omega (arith, ge))
  any_between (x ∷ xs) (suc from) (suc end) (suc at) ge lt h = any_between xs from end at (omega (arith, ge)) (omega (arith, lt)) h
  any_between (x ∷ xs) zero (suc end) zero ge lt h = grind (arith, h)
  any_between (x ∷ xs) zero (suc end) (suc at) ge lt h = elim (cases_Bool (test x)) [
    | inl on ↦ grind (arith, on)
    | inr off ↦ grind (arith, off, any_between xs zero end at (omega arith) (omega (arith, lt)) h)
  ]

  -- the test passes at a place exactly where what stands there passes it
  pub passes_at : (xs : List X) (at : ℕ) (x : X) → slice_get xs at ≡ Some x → passes test xs at ≡ test x
  passes_at [] zero x e = absurd (let no : ⊥ = cc in no)
  passes_at [] (suc at) x e = absurd (let no : ⊥ = cc in no)
  passes_at (y ∷ xs) zero x e = ap test (let same : y ≡ x = cc in same)
  passes_at (y ∷ xs) (suc at) x e = passes_at xs at x e

  -- one passes exactly where not all are left out
  pub any_of_none : (xs : List X) → filter test xs ≡ [] → list_any test xs ≡ false
  any_of_none [] e = refl
  any_of_none (x ∷ xs) e = elim (cases_Bool (test x)) [
    | inl on ↦
        let more : x ∷ filter test xs ≡ [] = sym (ap (λ (b : Bool). cond b (x ∷ filter test xs) (filter test xs)) on) ∙ e in
        absurd (let no : ⊥ = cc in no)
    | inr off ↦ grind (arith, off, any_of_none xs (sym (ap (λ (b : Bool). cond b (x ∷ filter test xs) (filter test xs)) off) ∙ e))
  ]
