-- Bytes that a loop puts, one item after another.
use Rattle.std.proofs.Common.{◌≡◌, ℕ, ◌+◌, ◌<◌, List, ◌++◌, length, drop, get_or, sym, ap, ◌∙◌, append_assoc}
use Rattle.std.specs.Prelude.{flat_map}
use Rattle.std.proofs.lemmas.List.{at_drop_more}

-- the bytes of the next item are put, and what is still to be put are those of the items behind it
pub put-next : {X : Type 0} (f : X → List ℕ) (xs : List X) (i : ℕ) (x : X) (old new all : List ℕ) → i < length xs → x ≡ get_or xs i x → old ++ flat_map f (drop i xs) ≡ all → new ≡ old ++ f x
    → new ++ flat_map f (drop (i + 1) xs) ≡ all
put-next f xs i x old new all within here so_far put =
    ap (λ (t : List ℕ). t ++ flat_map f (drop (i + 1) xs)) put
    ∙ append_assoc old (f x) (flat_map f (drop (i + 1) xs))
    ∙ ap (λ (y : _). old ++ (f y ++ flat_map f (drop (i + 1) xs))) here
    ∙ ap (λ (t : List ℕ). old ++ t) (sym (at_drop_more (λ (ys : List _). flat_map f ys) xs i x within)) ∙ so_far
