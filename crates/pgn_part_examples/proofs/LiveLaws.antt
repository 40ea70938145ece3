-- Lines of two sessions that are mixed.
use Rattle.std.proofs.Common.{◌≡◌, ◌⊎◌, inl, inr, ℕ, List, [], ◌∷◌, ◌++◌, sym, ap, ◌∙◌, refl, subst}
use Rattle.std.proofs.lemmas.Bool.{cases_eq}
use Rattle.pgn_model.specs.declared.item.Item.{Item}
use Rattle.pgn_live.specs.Cames.{items_in, items_of}
use Rattle.pgn_live.specs.Lives.{AreWhole}
use Rattle.pgn_live.proofs.CameLaws.{none_of_other}
use Rattle.pgn_part_examples.specs.Live.{line_of}

-- lines of two sessions that are mixed
pub mixed : AreWhole ((line_of 1 3 ∷ line_of 1 4 ∷ []) ++ line_of 2 5 ∷ []) (line_of 1 3 ∷ line_of 2 5 ∷ line_of 1 4 ∷ [])
mixed n = either (cases_eq 2 n)
  where
    either : (2 ≡ n) ⊎ (2 ≡ n → ⊥) → items_of n (line_of 1 3 ∷ line_of 2 5 ∷ line_of 1 4 ∷ []) ≡ items_of n ((line_of 1 3 ∷ line_of 1 4 ∷ []) ++ line_of 2 5 ∷ [])
    either (inl e) = subst (λ (m : ℕ). items_of m (line_of 1 3 ∷ line_of 2 5 ∷ line_of 1 4 ∷ []) ≡ items_of m ((line_of 1 3 ∷ line_of 1 4 ∷ []) ++ line_of 2 5 ∷ [])) e refl
    either (inr apart) =
        let none : items_in n (line_of 2 5) ≡ [] = none_of_other n (line_of 2 5) apart in
        let rest : List Item = items_in n (line_of 1 4) in
        ap (λ (l : List Item). items_in n (line_of 1 3) ++ (l ++ (rest ++ []))) none ∙ ap (λ (l : List Item). items_in n (line_of 1 3) ++ (rest ++ l)) (sym (ap (λ (l : List Item). l ++ []) none))
