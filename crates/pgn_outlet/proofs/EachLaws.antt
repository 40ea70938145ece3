-- What holds of each pass, after one pass has changed or has been made.
use Rattle.std.proofs.Common.{◌≡◌, ◌≢◌, ℕ, zero, suc, List, [], ◌∷◌, ◌++◌, length, set, sym, refl, ap, subst, ◌⊎◌, ⊎_elim, inl, inr}
use mathlib.Core.Option.{some, some-injective, some-ne-none}
use lib.ListN.{get_elem?}
use Rattle.crossbeam_queue.proofs.Lists.{at_set}
use Rattle.pgn_outlet.specs.declared.hand.Hand.{Hand}
use Rattle.pgn_outlet.specs.Rule.{Each}

module _ {T : Type 0} where
  -- one pass changes, and so may what holds of each
  pub each_turn : (P Q : ℕ → Hand T → Type 0) (views : List (Hand T)) (port : ℕ) (w : Hand T) → Each P views → Q port w
      → ((j : ℕ) (v : Hand T) → j ≢ port → P j v → Q j v) → Each Q (set views port w)
  each_turn P Q views port w all mine others j u there =
      elim (at_set views port j w u there) [
        | inl t ↦ subst (λ (n : ℕ). Q n u) (sym t.0) (subst (λ (x : Hand T). Q port x) t.1 mine)
        | inr t ↦ others j u t.0 (all j u t.1)
      ]

  -- what stood at another place before one pass has changed
  pub stood : (views : List (Hand T)) (port other : ℕ) (v w : Hand T) → other ≢ port → get_elem? (set views port v) other ≡ some w → get_elem? views other ≡ some w
  stood views port other v w apart there = ⊎_elim (λ t. absurd (apart t.0)) (λ t. t.1) (at_set views port other v w there)

  -- the place of the last pass
  at_end : (l : List (Hand T)) (a b : Hand T) (j : ℕ) → get_elem? (l ++ a ∷ []) j ≡ some b → (get_elem? l j ≡ some b) ⊎ ((a ≡ b) × (j ≡ length l))
  at_end [] a b zero e = inr (some-injective a b e, refl)
  at_end [] a b (suc j) e = absurd (some-ne-none b (sym e))
  at_end (x ∷ xs) a b zero e = inl e
  at_end (x ∷ xs) a b (suc j) e = ⊎_elim (λ p. inl p) (λ t. inr (t.0, ap suc t.1)) (at_end xs a b j e)

  -- one pass is made
  pub each_made : (P : ℕ → Hand T → Type 0) (views : List (Hand T)) (w : Hand T) → Each P views → P (length views) w → Each P (views ++ w ∷ [])
  each_made P views w all mine j u there =
      elim (at_end views w u j there) [
        | inl p ↦ all j u p
        | inr t ↦ subst (λ (n : ℕ). P n u) (sym t.1) (subst (λ (x : Hand T). P (length views) x) t.0 mine)
      ]

  -- there is one pass
  pub each_one : (P : ℕ → Hand T → Type 0) (v : Hand T) → P 0 v → Each P (v ∷ [])
  each_one P v mine zero u there = subst (λ (x : Hand T). P 0 x) (some-injective v u there) mine
  each_one P v mine (suc j) u there = absurd (some-ne-none u (sym there))
