-- What holds of each pass, after one pass has changed or has been made.
use Rattle.std.proofs.Common.{◌≡◌, ◌≢◌, ℕ, zero, suc, ◌+◌, ◌<◌, ◌≤◌, All, List, [], ◌∷◌, ◌++◌, length, set, sum_by, sym, refl, ap, subst, ◌⊎◌, ⊎_elim, inl, inr, arith}
use Rattle.std.proofs.lemmas.List.Sums.{sum_by-append, sum_by-cons}
use Rattle.std.proofs.lemmas.List.Elements.{All-weaker}
use mathlib.Core.Option.{some, some-injective, some-ne-none}
use lib.ListN.{get_elem?}
use Rattle.atomic_table.proofs.Lists.{at_set}
use Rattle.pgn_words.specs.declared.view.View.{View}
use Rattle.pgn_words.specs.Rule.{Each}

-- one pass changes, and so may what holds of each
pub each_turn : (P P' : ℕ → View → Type 0) (views : List View) (id : ℕ) (w : View) → Each P views → P' id w
    → ((j : ℕ) (v : View) → j ≢ id → get_elem? views j ≡ some v → P j v → P' j v) → Each P' (set views id w)
each_turn P P' views id w all mine others j u there =
    elim (at_set views id j w u there) [
      | inl t ↦ subst (λ (n : ℕ). P' n u) (sym t.0) (subst (λ (x : View). P' id x) t.1 mine)
      | inr t ↦ others j u t.0 t.1 (all j u t.1)
    ]

-- one pass changes, and what holds of each stays
pub each_keep : (P : ℕ → View → Type 0) (views : List View) (id : ℕ) (v w : View) → get_elem? views id ≡ some v → Each P views → (P id v → P id w) → Each P (set views id w)
each_keep P views id v w here all same = each_turn P P views id w all (same (all id v here)) (λ j u other there p. p)

-- the place of the last pass
at_end : (l : List View) (a b : View) (j : ℕ) → get_elem? (l ++ a ∷ []) j ≡ some b → (get_elem? l j ≡ some b) ⊎ ((a ≡ b) × (j ≡ length l))
at_end [] a b zero e = inr (some-injective a b e, refl)
at_end [] a b (suc j) e = absurd (some-ne-none b (sym e))
at_end (x ∷ xs) a b zero e = inl e
at_end (x ∷ xs) a b (suc j) e = ⊎_elim (λ p. inl p) (λ t. inr (t.0, ap suc t.1)) (at_end xs a b j e)

-- one pass is made
pub each_made : (P : ℕ → View → Type 0) (views : List View) (w : View) → Each P views → P (length views) w → Each P (views ++ w ∷ [])
each_made P views w all mine j u there =
    elim (at_end views w u j there) [
      | inl p ↦ all j u p
      | inr t ↦ subst (λ (n : ℕ). P n u) (sym t.1) (subst (λ (x : View). P (length views) x) t.0 mine)
    ]

-- a sum over the passes, after one has changed
pub sum_set : (f : View → ℕ) (views : List View) (id : ℕ) (v w : View) → get_elem? views id ≡ some v → sum_by f (set views id w) + f v ≡ sum_by f views + f w
sum_set f [] id v w e = absurd (some-ne-none v (sym e))
sum_set f (x ∷ xs) zero v w e =
    let same : f x ≡ f v = ap f (some-injective x v e) in omega (arith, sum_by-cons f w xs, sum_by-cons f x xs)
sum_set f (x ∷ xs) (suc id) v w e =
    omega (arith, sum_by-cons f x (set xs id w), sum_by-cons f x xs, sum_set f xs id v w e)

-- and after one was made
pub sum_made : (f : View → ℕ) (views : List View) (w : View) → sum_by f (views ++ w ∷ []) ≡ sum_by f views + f w
sum_made f views w = omega (arith, sum_by-append f views (w ∷ []), sum_by-cons f w [])

-- the pass that has changed stands where it stood
pub changed_at : (views : List View) (id : ℕ) (v w : View) → get_elem? views id ≡ some v → get_elem? (set views id w) id ≡ some w
changed_at [] id v w e = absurd (some-ne-none v (sym e))
changed_at (x ∷ xs) zero v w e = refl
changed_at (x ∷ xs) (suc id) v w e = changed_at xs id v w e

-- there is one pass
pub each_one : (P : ℕ → View → Type 0) (v : View) → P 0 v → Each P (v ∷ [])
each_one P v mine zero u there = subst (λ (x : View). P 0 x) (some-injective v u there) mine
each_one P v mine (suc j) u there = absurd (some-ne-none u (sym there))

-- numbers of transactions that were seen are so where more was seen
pub own_further : (own : List ℕ) (m n : ℕ) → m ≤ n → All (λ x. x < 3 + m) own → All (λ x. x < 3 + n) own
own_further own m n low all = All-weaker (λ (x : ℕ). x < 3 + m) (λ (x : ℕ). x < 3 + n) (λ x less. omega (arith, less, low)) own all
