-- Proofs of the laws of lists that begin other lists.
use Rattle.std.proofs.Common.{◌≡◌, ◌↔◌, ℕ, zero, suc, ◌≤◌, List, [], ◌∷◌, ◌++◌, length, take, drop, Some, slice_get, sym, ap, ◌∙◌, refl, subst, arith, length-append}
use Rattle.std.proofs.lemmas.List.{take_at, take_all, take-take, take-append-drop}
use Rattle.pgn_journal.specs.Begins.{Begins}

-- no elements begin each list
pub begins-none : {A : Type 0} (xs : List A) → Begins [] xs
begins-none xs = record { is = refl }

-- a list begins itself
pub begins-itself : {A : Type 0} (xs : List A) → Begins xs xs
begins-itself xs = record { is = take_all (length xs) xs (omega arith) }

-- a list begins what goes on behind it
pub begins-continued : {A : Type 0} (xs rest : List A) → Begins xs (xs ++ rest)
begins-continued xs rest = record { is = take_at xs rest (length xs) refl }

-- what follows a prefix
pub begins-rest : {A : Type 0} (xs ys : List A) → Begins xs ys → ys ≡ xs ++ drop (length xs) ys
begins-rest xs ys h = sym (take-append-drop (length xs) ys) ∙ ap (λ zs. zs ++ drop (length xs) ys) h.is

-- one list begins another exactly where the other is the one and some rest
pub begins-continues : {A : Type 0} (xs ys : List A) → Begins xs ys ↔ ((rest : List A) × (ys ≡ xs ++ rest))
begins-continues xs ys = (λ h. (drop (length xs) ys, begins-rest xs ys h), λ r. subst (λ zs. Begins xs zs) (sym r.1) (begins-continued xs r.0))

-- what begins a list is no longer than it
pub begins-shorter : {A : Type 0} (xs ys : List A) → Begins xs ys → length xs ≤ length ys
begins-shorter xs ys h = omega (arith, ap length (begins-rest xs ys h), length-append xs (drop (length xs) ys))

-- what begins a list begins all that the list begins
pub begins-on : {A : Type 0} (xs ys zs : List A) → Begins xs ys → Begins ys zs → Begins xs zs
begins-on xs ys zs h k = record {
  is = sym (take-take (length xs) (length ys) zs (begins-shorter xs ys h)) ∙ ap (take (length xs)) k.is ∙ h.is;
}

-- the first elements of a list begin it
pub begins-taken : {A : Type 0} (n : ℕ) (xs : List A) → Begins (take n xs) xs
begins-taken n xs = subst (λ ys. Begins (take n xs) ys) (take-append-drop n xs) (begins-continued (take n xs) (drop n xs))

-- what begins a list and is no shorter is the whole of it
pub begins-whole : {A : Type 0} (xs ys : List A) → Begins xs ys → length ys ≤ length xs → xs ≡ ys
begins-whole xs ys h long = sym h.is ∙ take_all (length xs) ys long

-- of two lists that begin a third the shorter begins the longer
pub begins-alike : {A : Type 0} (xs ys zs : List A) → Begins xs zs → Begins ys zs → length xs ≤ length ys → Begins xs ys
begins-alike xs ys zs h k short = record {
  is = ap (take (length xs)) (sym k.is) ∙ take-take (length xs) (length ys) zs short ∙ h.is;
}

held : {A : Type 0} (xs rest : List A) (k : ℕ) (x : A) → slice_get xs k ≡ Some x → slice_get (xs ++ rest) k ≡ Some x
held [] rest k x e = absurd (cc)
held (y ∷ xs) rest zero x e = e
held (y ∷ xs) rest (suc k) x e = held xs rest k x e

-- what stands in the front of a list stands there in the list
pub begins-holds : {A : Type 0} (xs ys : List A) (k : ℕ) (x : A) → Begins xs ys → slice_get xs k ≡ Some x → slice_get ys k ≡ Some x
begins-holds xs ys k x h e = ap (λ zs. slice_get zs k) (begins-rest xs ys h) ∙ held xs (drop (length xs) ys) k x e

more : {A : Type 0} (xs rest : List A) (y : A) → slice_get (xs ++ rest) (length xs) ≡ Some y → take (length (xs ++ y ∷ [])) (xs ++ rest) ≡ xs ++ y ∷ []
more [] [] y e = absurd (cc)
more [] (z ∷ rest) y e = cc
more (x ∷ xs) rest y e = ap (λ zs. x ∷ zs) (more xs rest y e)

-- a front and the element behind it are a front too
pub begins-more : {A : Type 0} (xs ys : List A) (y : A) → Begins xs ys → slice_get ys (length xs) ≡ Some y → Begins (xs ++ y ∷ []) ys
begins-more xs ys y h e =
    let parts = begins-rest xs ys h in
    record { is = ap (take (length (xs ++ y ∷ []))) parts ∙ more xs (drop (length xs) ys) y (ap (λ zs. slice_get zs (length xs)) (sym parts) ∙ e) }
