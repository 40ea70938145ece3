-- What holds of each pass after one has taken in another.
use Rattle.std.specs.Prelude.{Any, Contains, flat_map}
use Rattle.std.proofs.Common.{◌≡◌, ◌≢◌, ◌⊎◌, inl, inr, ⊎_elim, ℕ, zero, suc, ◌<◌, ◌==◌, true, false, cond, List, [], ◌∷◌, ◌++◌, set, All, sym, refl, ap, ◌∙◌, subst, arith}
use Rattle.std.proofs.lemmas.List.{append-nil, append_assoc}
use Rattle.std.proofs.lemmas.List.Elements.{All-nil, All-cons, All-head, All-tail, All-append}
use Rattle.std.proofs.lemmas.Bool.Decides.{nat_tests}
use mathlib.Core.Option.{some, some-injective}
use lib.ListN.{get_elem?}
use native.Mathlib.Decide.{ℕ_discrete}
use Rattle.atomic_table.proofs.Lists.{set_else}
use Rattle.pgn_hub.specs.declared.known.Known.{Known}
use Rattle.pgn_words.specs.declared.view.View.{View}
use Rattle.pgn_words.specs.Told.{spent_view}
use Rattle.pgn_words.specs.Each.{Each, Someone}
use Rattle.pgn_words.proofs.EachLaws.{each_turn, changed_at}

-- the passes of those that sat at one seat sit at another
abbrev pub seat_moved : ℕ → ℕ → (ℕ → ℕ) → ℕ → ℕ
seat_moved from to seat n = cond (seat n == from) to (seat n)

-- who sits elsewhere stays there
pub seat_stays : (from to : ℕ) (seat : ℕ → ℕ) (n at : ℕ) → seat n ≡ at → at ≢ from → seat_moved from to seat n ≡ at
seat_stays from to seat n at is other = let differs : seat n == from ≡ false = let ne : seat n ≢ from = λ same. other (sym is ∙ same) in grind (arith, nat_tests, ne) in ap (λ b. cond b to (seat n)) differs ∙ is

-- who sat where the one was that is taken in sits with who takes it
pub seat_goes : (from to : ℕ) (seat : ℕ → ℕ) (n : ℕ) → seat n ≡ from → seat_moved from to seat n ≡ to
seat_goes from to seat n is = let same : seat n == from ≡ true = grind (arith, nat_tests) in ap (λ b. cond b to (seat n)) same

module _ (views : List View) (id other : ℕ) (v u w : View) (here : get_elem? views id ≡ some v) (there : get_elem? views other ≡ some u) (apart : other ≢ id) where
  -- two passes change, and what holds of each does
  pub each_two : (P P' : ℕ → View → Type 0) → Each P views → P' id w → P' other spent_view → ((j : ℕ) (x : View) → j ≢ id → j ≢ other → get_elem? views j ≡ some x → P j x → P' j x)
      → Each P' (set (set views id w) other spent_view)
  each_two P P' all mine spent others =
      each_turn (λ j x. j ≢ other → P' j x) P' (set views id w) other spent_view
      (each_turn P (λ j x. j ≢ other → P' j x) views id w all (λ _. mine) (λ j x ne at p other_ne. others j x ne other_ne at p))
      spent
      (λ j x ne at p. p ne)

  taker_at : get_elem? (set (set views id w) other spent_view) id ≡ some w
  taker_at = set_else (set views id w) other id spent_view (λ same. apart (sym same)) ∙ changed_at views id v w here

  -- the seat of a pass that is not the one that is taken in
  pub seen_at : (P : View → Type 0) → (P v → P w) → (j : ℕ) (x : View) → get_elem? views j ≡ some x → j ≢ other → P x → (y : View) × (get_elem? (set (set views id w) other spent_view) j ≡ some y) × P y
  seen_at P keeps j x at ne p = by_seat (ℕ_discrete j id)
    where
      by_seat : Dec (j ≡ id) → (y : View) × (get_elem? (set (set views id w) other spent_view) j ≡ some y) × P y
      by_seat (yes e) =
          let same : x ≡ v = some-injective x v (sym at ∙ ap (get_elem? views) e ∙ here) in
          (w, ap (get_elem? (set (set views id w) other spent_view)) e ∙ taker_at, keeps (subst P same p))
      by_seat (no off) = (x, set_else (set views id w) other j spent_view ne ∙ set_else views id j w off ∙ at, p)

  -- somebody's pass has it still
  pub someone_two : (P : View → Type 0) → 0 < w.known.session → (P v → P w) → (P u → P w) → Someone P views → Someone P (set (set views id w) other spent_view)
  someone_two P positive keeps takes (j, x, at, some_session, p) = by_seat (ℕ_discrete j other)
    where
      by_seat : Dec (j ≡ other) → Someone P (set (set views id w) other spent_view)
      by_seat (yes e) =
          let same : x ≡ u = some-injective x u (sym at ∙ ap (get_elem? views) e ∙ there) in
          (id, w, taker_at, positive, takes (subst P same p))
      by_seat (no ne) =
          let r = seen_at (λ y. (0 < y.known.session) × P y) (λ q. (positive, keeps q.1)) j x at ne (some_session, p) in (j, r.0, r.1, r.2.0, r.2.1)

-- lists that are put together
pub contains_left : {X : Type 0} (xs ys : List X) (p : X) → Contains xs p → Contains (xs ++ ys) p
contains_left [] ys p (k, within, is) = absurd (omega (arith, within))
contains_left (x ∷ xs) ys p (zero, within, is) = (zero, omega arith, is)
contains_left (x ∷ xs) ys p (suc k, within, is) = let r = contains_left xs ys p (k, omega (arith, within), is) in (suc r.0, (let low = r.1 in omega (arith, low)), r.2)

pub contains_right : {X : Type 0} (xs ys : List X) (p : X) → Contains ys p → Contains (xs ++ ys) p
contains_right [] ys p has = has
contains_right (x ∷ xs) ys p has = let r = contains_right xs ys p has in (suc r.0, (let low = r.1 in omega (arith, low)), r.2)

pub contains_parts : {X : Type 0} (xs ys : List X) (p : X) → Contains (xs ++ ys) p → Contains xs p ⊎ Contains ys p
contains_parts [] ys p has = inr has
contains_parts (x ∷ xs) ys p (zero, within, is) = inl (zero, omega arith, is)
contains_parts (x ∷ xs) ys p (suc k, within, is) = ⊎_elim (λ l. let low = l.1 in inl (suc l.0, omega (arith, low), l.2)) (λ r. inr r) (contains_parts xs ys p (k, omega (arith, within), is))

-- who is in the first of two lists is in both together
pub any_left : (P : Known → Type 0) (xs ys : List Known) → Any P xs → Any P (xs ++ ys)
any_left P [] ys (k, x, within, is, p) = absurd (omega (arith, within))
any_left P (x ∷ xs) ys (zero, y, within, is, p) = (zero, y, omega arith, is, p)
any_left P (x ∷ xs) ys (suc k, y, within, is, p) = let r = any_left P xs ys (k, y, omega (arith, within), is, p) in (suc r.0, r.1, (let low = r.2 in omega (arith, low)), r.3, r.4)

-- and so is who is in the second
pub any_right : (P : Known → Type 0) (xs ys : List Known) → Any P ys → Any P (xs ++ ys)
any_right P [] ys has = has
any_right P (x ∷ xs) ys has = let r = any_right P xs ys has in (suc r.0, r.1, (let low = r.2 in omega (arith, low)), r.3, r.4)

pub all_left : {X : Type 0} (P : X → Type 0) (xs ys : List X) → All P (xs ++ ys) → All P xs
all_left P [] ys all = All-nil P
all_left P (x ∷ xs) ys all = All-cons P x xs (All-head P x (xs ++ ys) all) (all_left P xs ys (All-tail P x (xs ++ ys) all))

pub all_right : {X : Type 0} (P : X → Type 0) (xs ys : List X) → All P (xs ++ ys) → All P ys
all_right P [] ys all = all
all_right P (x ∷ xs) ys all = all_right P xs ys (All-tail P x (xs ++ ys) all)

flat_join : (f : Known → List (ℕ × ℕ)) (xs ys : List Known) → flat_map f (xs ++ ys) ≡ flat_map f xs ++ flat_map f ys
flat_join f [] ys = refl
flat_join f (x ∷ xs) ys = ap (λ l. f x ++ l) (flat_join f xs ys) ∙ sym (append_assoc (f x) (flat_map f xs) (flat_map f ys))

-- the lists of a pass that has taken in another: its own with those it had, then those that the other had, and the other's own
pub lists_taken : (f : Known → List (ℕ × ℕ)) (own : List (ℕ × ℕ)) (js us : List Known) (k : Known) → own ++ flat_map f (js ++ us ++ k ∷ []) ≡ (own ++ flat_map f js) ++ (flat_map f us ++ f k)
lists_taken f own js us k =
    let last : flat_map f (k ∷ []) ≡ f k = append-nil (f k) in
    ap (λ l. own ++ l) (flat_join f (js ++ us) (k ∷ []) ∙ ap (λ l. l ++ flat_map f (k ∷ [])) (flat_join f js us) ∙ append_assoc (flat_map f js) (flat_map f us) (flat_map f (k ∷ [])) ∙ ap (λ l. flat_map f js ++ (flat_map f us ++ l)) last)
    ∙ sym (append_assoc own (flat_map f js) (flat_map f us ++ f k))

-- what holds of all that each of two passes tells holds of all that they tell together
pub all_taken : (P : ℕ × ℕ → Type 0) (f : Known → List (ℕ × ℕ)) (own : List (ℕ × ℕ)) (js us : List Known) (k : Known) → All P (own ++ flat_map f js) → All P (f k ++ flat_map f us) → All P (own ++ flat_map f (js ++ us ++ k ∷ []))
all_taken P f own js us k a b =
    subst (λ (l : List (ℕ × ℕ)). All P l) (sym (lists_taken f own js us k))
    (All-append P (own ++ flat_map f js) (flat_map f us ++ f k) a (All-append P (flat_map f us) (f k) (all_right P (f k) (flat_map f us) b) (all_left P (f k) (flat_map f us) b)))

-- what the one told they tell together
pub has_mine : (f : Known → List (ℕ × ℕ)) (own : List (ℕ × ℕ)) (js us : List Known) (k : Known) (p : ℕ × ℕ) → Contains (own ++ flat_map f js) p → Contains (own ++ flat_map f (js ++ us ++ k ∷ [])) p
has_mine f own js us k p has = subst (λ (l : List (ℕ × ℕ)). Contains l p) (sym (lists_taken f own js us k)) (contains_left (own ++ flat_map f js) (flat_map f us ++ f k) p has)

-- and what the other did
pub has_theirs : (f : Known → List (ℕ × ℕ)) (own : List (ℕ × ℕ)) (js us : List Known) (k : Known) (p : ℕ × ℕ) → Contains (f k ++ flat_map f us) p → Contains (own ++ flat_map f (js ++ us ++ k ∷ [])) p
has_theirs f own js us k p has =
    subst (λ (l : List (ℕ × ℕ)). Contains l p) (sym (lists_taken f own js us k))
    (contains_right (own ++ flat_map f js) (flat_map f us ++ f k) p
    (⊎_elim (λ l. contains_right (flat_map f us) (f k) p l) (λ r. contains_left (flat_map f us) (f k) p r) (contains_parts (f k) (flat_map f us) p has)))
