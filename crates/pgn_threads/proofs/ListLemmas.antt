-- Lists that are mapped and joined.
use Rattle.std.proofs.Common.{◌≡◌, ℕ, zero, suc, ◌+◌, ◌-◌, ◌<◌, List, [], ◌∷◌, ◌++◌, length, map, take, drop, flat_map, get_or, slice_get, IsSomeAnd, All, Any, Contains, sym, ap, ◌∙◌, refl, subst, arith, append-nil, append_assoc}
use Rattle.std.proofs.lemmas.List.{length-map, map-append}
use Rattle.std.proofs.lemmas.List.Elements.{All-nil, All-cons, All-head, All-tail, All-append, All-drop, All-same, All-take, Contains-append_left, Contains-append_right}

-- what holds of each element of a mapped list
pub All-unmap : {X Y : Type 0} (P : Y → Type 0) (f : X → Y) (xs : List X) → All P (map f xs) → All (λ x. P (f x)) xs
All-unmap P f [] h = All-nil (λ x. P (f x))
All-unmap P f (x ∷ xs) h = All-cons (λ z. P (f z)) x xs (All-head P (f x) (map f xs) h) (All-unmap P f xs (All-tail P (f x) (map f xs) h))

-- what holds of each element of each list that is joined
pub All-flat : {X Y : Type 0} (P : Y → Type 0) (f : X → List Y) (xs : List X) → All (λ x. All P (f x)) xs → All P (flat_map f xs)
All-flat P f [] h = All-nil P
All-flat P f (x ∷ xs) h = All-append P (f x) (flat_map f xs) (All-head (λ z. All P (f z)) x xs h) (All-flat P f xs (All-tail (λ z. All P (f z)) x xs h))

-- an element of one of the lists that are joined
pub in-flat : {X Z Y : Type 0} (g : X → Z) (f : Z → List Y) (xs : List X) (k : ℕ) (d : X) (y : Y) → k < length xs → Contains (f (g (get_or xs k d))) y → Contains (flat_map f (map g xs)) y
in-flat g f [] k d y lt h = absurd (omega (arith, lt))
in-flat g f (x ∷ xs) zero d y lt h = Contains-append_left (f (g x)) (flat_map f (map g xs)) y h
in-flat g f (x ∷ xs) (suc k) d y lt h = Contains-append_right (f (g x)) (flat_map f (map g xs)) y (in-flat g f xs k d y (omega (arith, lt)) h)

-- what is said of an element of a mapped list that is there
pub some-mapped : {X Y : Type 0} (f : X → Y) (P : Y → Type 0) (xs : List X) (k : ℕ) → IsSomeAnd (slice_get (map f xs) k) P → Any (λ x. P (f x)) xs
some-mapped f P [] k h = absurd h
some-mapped f P (x ∷ xs) zero h = (0, x, omega arith, refl, h)
some-mapped f P (x ∷ xs) (suc k) h = let rest = some-mapped f P xs k h in (suc rest.0, rest.1, omega (arith, rest.2), rest.3, rest.4)

-- an element of a list has what holds of each
pub All-any : {X : Type 0} (P Q : X → Type 0) (xs : List X) → All P xs → (some : Any Q xs) → P some.1
All-any P Q xs all some = subst P some.3 (all some.0 some.1 some.2)

-- a mapped element
pub any-mapped : {X Y : Type 0} (f : X → Y) (P : Y → Type 0) (xs : List X) → Any (λ x. P (f x)) xs → Any P (map f xs)
any-mapped f P xs some = (some.0, f some.1, at f xs some.0 some.1 some.2 some.3, is f xs some.0 some.1 some.2 some.3, some.4)
  where
    at : {X Y : Type 0} (f : X → Y) (xs : List X) (k : ℕ) (x : X) → k < length xs → get_or xs k x ≡ x → k < length (map f xs)
    at f [] k x lt e = absurd (omega (arith, lt))
    at f (y ∷ ys) zero x lt e = omega arith
    at f (y ∷ ys) (suc k) x lt e = omega (arith, at f ys k x (omega (arith, lt)) e)

    is : {X Y : Type 0} (f : X → Y) (xs : List X) (k : ℕ) (x : X) → k < length xs → get_or xs k x ≡ x → get_or (map f xs) k (f x) ≡ f x
    is f [] k x lt e = absurd (omega (arith, lt))
    is f (y ∷ ys) zero x lt e = ap f e
    is f (y ∷ ys) (suc k) x lt e = is f ys k x (omega (arith, lt)) e

-- a list that was written back over as many
pub written-back : {X : Type 0} (xs old : List X) (n : ℕ) → n ≡ length xs → take n (xs ++ old) ≡ xs
written-back {X} xs old n is = ap (λ (m : ℕ). take m (xs ++ old)) is ∙ front xs
  where
    front : (ys : List X) → take (length ys) (ys ++ old) ≡ ys
    front [] = refl
    front (y ∷ ys) = ap (λ (zs : List X). y ∷ zs) (front ys)

-- lists with the same image are equally long
pub same-count : {X Y : Type 0} (f : X → Y) (xs ys : List X) → map f xs ≡ map f ys → length xs ≡ length ys
same-count {X} {Y} f xs ys e = sym (length-map xs f) ∙ ap (λ (zs : List Y). length zs) e ∙ length-map ys f

-- what holds of each holds of a front, and of what follows it
pub all-front : {X : Type 0} (Q : X → Type 0) (xs front : List X) (n : ℕ) → front ≡ take n xs → All Q xs → All Q front
all-front Q xs front n cut all = All-same Q front (take n xs) cut (All-take Q n xs all)

-- what holds of all holds of those behind the first ones
pub all-behind : {X : Type 0} (Q : X → Type 0) (xs back : List X) (n : ℕ) → back ≡ drop n xs → All Q xs → All Q back
all-behind Q xs back n cut all = All-same Q back (drop n xs) cut (All-drop Q n xs all)

-- a place before the cut, and one behind it
pub place-before : (i n : ℕ) → 0 < i → n ≡ i → i - 1 < n
place-before i n some is = omega (arith, some, is)

-- a place counted from the end is not the first one
pub place-behind : (i n all : ℕ) → n + i ≡ all → i < all → 0 < n
place-behind i n all cut lt = omega (arith, cut, lt)

-- one more, mapped
pub one-more : {X Y : Type 0} (f : X → Y) (xs : List X) (x : X) (ys zs : List Y) (y : Y) → ys ≡ map f xs → y ≡ f x → zs ≡ ys ++ y ∷ [] → zs ≡ map f (xs ++ x ∷ [])
one-more {X} {Y} f xs x ys zs y so_far is more = more ∙ ap (λ (all : List Y). all ++ y ∷ []) so_far ∙ ap (λ (a : Y). map f xs ++ a ∷ []) is ∙ sym (map-append f xs (x ∷ []))

-- what is done is all, where nothing is left
pub all-done : {X : Type 0} (done left all : List X) → done ++ left ≡ all → length left ≡ 0 → done ≡ all
all-done done [] all cut none = sym (append-nil done) ∙ cut
all-done done (x ∷ left) all cut none = absurd (omega (arith, none))

-- one more is done
pub one-done : {X : Type 0} (done : List X) (x : X) (left more all : List X) → left ≡ x ∷ more → done ++ left ≡ all → (done ++ x ∷ []) ++ more ≡ all
one-done done x left more all next cut = append_assoc done (x ∷ []) more ∙ ap (λ (xs : List _). done ++ xs) (sym next) ∙ cut

-- what holds of all holds of the first ones
pub all-first : {X : Type 0} (P : X → Type 0) (xs ys : List X) → All P (xs ++ ys) → All P xs
all-first P [] ys all = All-nil P
all-first P (x ∷ xs) ys all = All-cons P x xs (All-head P x (xs ++ ys) all) (all-first P xs ys (All-tail P x (xs ++ ys) all))

-- and of those behind them
pub all-rest : {X : Type 0} (P : X → Type 0) (xs ys : List X) → All P (xs ++ ys) → All P ys
all-rest P [] ys all = all
all-rest P (x ∷ xs) ys all = all-rest P xs ys (All-tail P x (xs ++ ys) all)
