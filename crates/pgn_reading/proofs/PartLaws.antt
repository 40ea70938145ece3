-- Lists of which a front has been changed, element by element.
use Rattle.std.proofs.Common.{◌≡◌, ℕ, zero, suc, ◌+◌, ◌<◌, List, [], ◌∷◌, ◌++◌, length, map, take, drop, set, get_or, sym, ap, ◌∙◌, refl, arith, add-one}

-- the front of so many is changed
abbrev pub part : {X : Type 0} → (X → X) → ℕ → List X → List X
part f i xs = map f (take i xs) ++ drop i xs

-- the next one is as it was
here : {X : Type 0} (f : X → X) (xs : List X) (i : ℕ) (d : X) → i < length xs → get_or (part f i xs) i d ≡ get_or xs i d
here f [] i d lt = absurd (omega (arith, lt))
here f (x ∷ xs) zero d lt = refl
here f (x ∷ xs) (suc i) d lt = here f xs i d (omega (arith, lt))

-- and is changed next
further : {X : Type 0} (f : X → X) (xs : List X) (i : ℕ) (d : X) → i < length xs → set (part f i xs) i (f (get_or xs i d)) ≡ part f (suc i) xs
further f [] i d lt = absurd (omega (arith, lt))
further f (x ∷ xs) zero d lt = refl
further {X} f (x ∷ xs) (suc i) d lt = ap (λ (rest : List X). f x ∷ rest) (further f xs i d (omega (arith, lt)))

-- in a list of which a front was changed the next element is as it was
pub part-here : {X : Type 0} (f : X → X) (xs now : List X) (i : ℕ) (d : X) → i < length xs → now ≡ part f i xs → get_or xs i d ≡ get_or now i d
part-here {X} f xs now i d lt e = sym (here f xs i d lt) ∙ ap (λ (ys : List X). get_or ys i d) (sym e)

-- once it was changed too, one more is
pub part-more : {X : Type 0} (f : X → X) (xs now : List X) (i : ℕ) (d new : X) → i < length xs → now ≡ part f i xs → new ≡ f (get_or now i d) → set now i new ≡ part f (i + 1) xs
part-more {X} f xs now i d new lt e is =
    ap (λ (ys : List X). set ys i new) e ∙ ap (λ (x : X). set (part f i xs) i x) (is ∙ ap f (sym (part-here f xs now i d lt e)))
    ∙ further f xs i d lt ∙ ap (λ (n : ℕ). part f n xs) (sym (add-one i))
