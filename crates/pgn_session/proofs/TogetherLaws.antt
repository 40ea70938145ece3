-- Sessions for which a sleep was counted, and sessions that are changed one after another.
use Rattle.std.proofs.Common.{◌≡◌, ℕ, zero, suc, ◌+◌, ◌<◌, ◌≤◌, List, [], ◌∷◌, ◌++◌, map, length, take, drop, set, get_or, All, sym, ap, ◌∙◌, refl, subst, arith, add-one}
use Rattle.std.proofs.lemmas.List.Elements.{All-nil, All-cons, All-head, All-tail, All-get_or, All-map, All-weaker}
use Rattle.pgn_hub.specs.declared.known.Known.{Known}
use Rattle.pgn_hub.specs.Shape.{Shape}
use Rattle.pgn_session.specs.declared.session.Session.{Session}
use Rattle.pgn_session.specs.Runs.{script_of, shown_of, slept, IsReady}
use Rattle.pgn_session.proofs.SleepLaws.{rest-slept, unslept-same}

-- what a sleep does not change
slept-same : {P X : Type 0} (f : Session P → X) (micros : ℕ) → ((s : Session P) → f (slept micros s) ≡ f s) → (xs : List (Session P)) → map f (map (slept micros) xs) ≡ map f xs
slept-same f micros same [] = refl
slept-same {P} {X} f micros same (x ∷ xs) = ap (λ (y : X). y ∷ map f (map (slept micros) xs)) (same x) ∙ ap (λ (ys : List X). f x ∷ ys) (slept-same f micros same xs)

-- sessions that have not slept
pub all-unslept : {P : Type 0} (xs : List (Session P)) → xs ≡ map (slept 0) xs
all-unslept [] = refl
all-unslept {P} (x ∷ xs) = ap (λ (y : Session P). y ∷ xs) (unslept-same x) ∙ ap (λ (ys : List (Session P)). slept 0 x ∷ ys) (all-unslept xs)

module _ {P : Type 0} (micros : ℕ) (xs ys : List (Session P)) (same : ys ≡ map (slept micros) xs) where
  -- a sleep that was counted for each leaves the scripts
  pub slept-scripts : map script_of ys ≡ map script_of xs
  slept-scripts = ap (λ (zs : List (Session P)). map script_of zs) same ∙ slept-same (λ (s : Session P). script_of s) micros (λ s. refl) xs

  -- and what each has shown
  pub slept-shown : map shown_of ys ≡ map shown_of xs
  slept-shown = ap (λ (zs : List (Session P)). map shown_of zs) same ∙ slept-same (λ (s : Session P). shown_of s) micros (λ s. refl) xs

module _ {P : Type 0} (is_own : P → Type 0) (shape : Shape) (known : P → Known) where
  slept-ready : (micros : ℕ) (s : Session P) → IsReady is_own shape known s → IsReady is_own shape known (slept micros s)
  slept-ready micros s h = record { own = h.own; served = h.served; rested = rest-slept shape known s (slept micros s) micros refl h.rested }

  -- and each of them is ready still
  pub all-slept : (micros : ℕ) (xs ys : List (Session P)) → ys ≡ map (slept micros) xs → All (IsReady is_own shape known) xs → All (IsReady is_own shape known) ys
  all-slept micros xs ys same all =
      subst (λ (zs : List (Session P)). All (IsReady is_own shape known) zs) (sym same)
      (All-map (IsReady is_own shape known) (slept micros) xs (All-weaker (IsReady is_own shape known) (λ s. IsReady is_own shape known (slept micros s)) (slept-ready micros) xs all))

-- the front of so many is changed
abbrev part : {X : Type 0} → (X → X) → ℕ → List X → List X
part f i xs = map f (take i xs) ++ drop i xs

part-here : {X : Type 0} (f : X → X) (xs : List X) (i : ℕ) (d : X) → i < length xs → get_or (part f i xs) i d ≡ get_or xs i d
part-here f [] i d lt = absurd (omega (arith, lt))
part-here f (x ∷ xs) zero d lt = refl
part-here f (x ∷ xs) (suc i) d lt = part-here f xs i d (omega (arith, lt))

part-further : {X : Type 0} (f : X → X) (xs : List X) (i : ℕ) (d : X) → i < length xs → set (part f i xs) i (f (get_or xs i d)) ≡ part f (suc i) xs
part-further f [] i d lt = absurd (omega (arith, lt))
part-further f (x ∷ xs) zero d lt = refl
part-further {X} f (x ∷ xs) (suc i) d lt = ap (λ (rest : List X). f x ∷ rest) (part-further f xs i d (omega (arith, lt)))

-- once the next one was changed too, one more is
pub part-more : {X : Type 0} (f : X → X) (xs now : List X) (i : ℕ) (d new : X) → i < length xs → now ≡ map f (take i xs) ++ drop i xs → new ≡ f (get_or now i d) → set now i new ≡ map f (take (i + 1) xs) ++ drop (i + 1) xs
part-more {X} f xs now i d new lt e is =
    ap (λ (ys : List X). set ys i new) e ∙ ap (λ (x : X). set (part f i xs) i x) (is ∙ ap (λ (ys : List X). f (get_or ys i d)) e ∙ ap f (part-here f xs i d lt))
    ∙ part-further f xs i d lt ∙ ap (λ (n : ℕ). part f n xs) (sym (add-one i))

part-whole : {X : Type 0} (f : X → X) (xs : List X) (i : ℕ) → length xs ≤ i → part f i xs ≡ map f xs
part-whole f [] zero le = refl
part-whole f [] (suc i) le = refl
part-whole f (x ∷ xs) zero le = absurd (omega (arith, le))
part-whole {X} f (x ∷ xs) (suc i) le = ap (λ (rest : List X). f x ∷ rest) (part-whole f xs i (omega (arith, le)))

-- and behind the last one, all are
pub part-all : {X : Type 0} (f : X → X) (xs now : List X) (i : ℕ) → length xs ≤ i → now ≡ map f (take i xs) ++ drop i xs → now ≡ map f xs
part-all f xs now i le e = e ∙ part-whole f xs i le

front-suc : {X : Type 0} (P : X → Type 0) (xs : List X) (i : ℕ) (x : X) → P x → All P (take i xs) → All P (take (suc i) (set xs i x))
front-suc P [] i x p all = All-nil P
front-suc P (y ∷ ys) zero x p all = All-cons P x [] p (All-nil P)
front-suc P (y ∷ ys) (suc i) x p all = All-cons P y (take (suc i) (set ys i x)) (All-head P y (take i ys) all) (front-suc P ys i x p (All-tail P y (take i ys) all))

-- what holds of the first ones and of the next one that was set holds of one more
pub front-more : {X : Type 0} (P : X → Type 0) (xs : List X) (i : ℕ) (x : X) → P x → All P (take i xs) → All P (take (i + 1) (set xs i x))
front-more {X} P xs i x p all = subst (λ (n : ℕ). All P (take n (set xs i x))) (sym (add-one i)) (front-suc P xs i x p all)

-- of so many as there are, it holds of all
pub front-all : {X : Type 0} (P : X → Type 0) (xs : List X) (i : ℕ) → length xs ≤ i → All P (take i xs) → All P xs
front-all P [] i le all = All-nil P
front-all P (y ∷ ys) zero le all = absurd (omega (arith, le))
front-all P (y ∷ ys) (suc i) le all = All-cons P y ys (All-head P y (take i ys) all) (front-all P ys i (omega (arith, le)) (All-tail P y (take i ys) all))

-- what holds of all from the next one on holds of the next one
pub back-here : {X : Type 0} (P : X → Type 0) (xs : List X) (i : ℕ) (d : X) → i < length xs → All P (drop i xs) → P (get_or xs i d)
back-here P [] i d lt all = absurd (omega (arith, lt))
back-here P (y ∷ ys) zero d lt all = All-head P y ys all
back-here P (y ∷ ys) (suc i) d lt all = back-here P ys i d (omega (arith, lt)) all

back-suc : {X : Type 0} (P : X → Type 0) (xs : List X) (i : ℕ) (x : X) → All P (drop i xs) → All P (drop (suc i) (set xs i x))
back-suc P [] i x all = All-nil P
back-suc P (y ∷ ys) zero x all = All-tail P y ys all
back-suc P (y ∷ ys) (suc i) x all = back-suc P ys i x all

-- and of all behind it
pub back-more : {X : Type 0} (P : X → Type 0) (xs : List X) (i : ℕ) (x : X) → All P (drop i xs) → All P (drop (i + 1) (set xs i x))
back-more {X} P xs i x all = subst (λ (n : ℕ). All P (drop n (set xs i x))) (sym (add-one i)) (back-suc P xs i x all)

-- a list keeps its image where the one that was set has the same
pub set-same : {X Y : Type 0} (f : X → Y) (xs : List X) (i : ℕ) (d x : X) → f x ≡ f (get_or xs i d) → map f (set xs i x) ≡ map f xs
set-same f [] i d x same = refl
set-same {X} {Y} f (y ∷ ys) zero d x same = ap (λ (z : Y). z ∷ map f ys) same
set-same {X} {Y} f (y ∷ ys) (suc i) d x same = ap (λ (zs : List Y). f y ∷ zs) (set-same f ys i d x same)

-- what holds of all holds of the only one
pub one-held : {X : Type 0} (P : X → Type 0) (xs : List X) (d : X) → length xs ≡ 1 → All P xs → P (get_or xs 0 d)
one-held P xs d e all = All-get_or P xs 0 d (omega (arith, e)) all

-- where the only one was changed, all are
pub one-changed : {X : Type 0} (f : X → X) (xs : List X) (d x : X) → length xs ≡ 1 → x ≡ f (get_or xs 0 d) → set xs 0 x ≡ map f xs
one-changed f [] d x e is = absurd (omega (arith, e))
one-changed {X} f (y ∷ []) d x e is = ap (λ (z : X). z ∷ []) is
one-changed f (y ∷ z ∷ zs) d x e is = absurd (omega (arith, e))
