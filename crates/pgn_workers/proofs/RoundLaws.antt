-- Rounds of turns.
use Rattle.std.proofs.Common.{◌≡◌, List, [], ◌∷◌, length, All, Result, Ok, Err, OnOk, OnErr, refl, subst, arith}
use Rattle.std.proofs.lemmas.List.Elements.{All-nil}

-- where there is none
pub all-none : {X : Type 0} (Q : X → Type 0) (xs : List X) → length xs ≡ 0 → All Q xs
all-none Q [] none = All-nil Q
all-none Q (x ∷ xs) none = absurd (omega (arith, none))

-- what holds anyway
pub on-err : {X E : Type 0} (r : Result X E) (Q : Type 0) → Q → OnErr r Q
on-err (Ok x) Q q = tt
on-err (Err e) Q q = q

-- what two answers come to that are made one
pub both-ok : {X E : Type 0} (first second both : Result X E) (P Q R : Type 0) → (P → Q → R) → ((x : X) → both ≡ Ok x → (y : X) × (z : X) × (first ≡ Ok y) × (second ≡ Ok z)) → OnOk first P → OnOk second Q → OnOk both R
both-ok first second (Err e) P Q R make done p q = tt
both-ok {X} {E} first second (Ok x) P Q R make done p q =
    let d = done x refl in
    make (subst (λ (r : Result X E). OnOk r P) d.2 p) (subst (λ (r : Result X E). OnOk r Q) d.3 q)
