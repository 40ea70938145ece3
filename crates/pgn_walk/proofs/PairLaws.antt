-- Pairs that are put into a set of keys.
use Rattle.std.proofs.Common.{◌≡◌, ◌⊎◌, ℕ, ◌^◌, ◌<◌, Bool, true, false, ◌||◌, cond, List, [], ◌∷◌, ◌++◌, nat_eq, sym, ap, ◌∙◌, refl, subst, inl, inr, arith, append_assoc}
use Rattle.std.specs.Prelude.{Contains}
use Rattle.std.specs.List.{list_any}
use Rattle.std.proofs.lemmas.Bool.{false≢true}
use Rattle.std.proofs.lemmas.Bool.Decides.{Decides-eqb}
use Rattle.std.proofs.lemmas.List.{append-nil}
use Rattle.std.proofs.lemmas.List.Elements.{Contains-append_left, Contains-push, Contains-push_cases}
use Rattle.std.proofs.lemmas.List.Folds.{list_any-append}
use Rattle.pgn_walk.specs.Pairs.{AreKeys, Gathers, HasGathered, key_of}

either : (a b : Bool) → (a || (b || false)) ≡ true → (a ≡ true) ⊎ (b ≡ true)
either true b h = inl refl
either false true h = inr refl
either false false h = absurd (false≢true h)

or_first : (a b : Bool) → a ≡ true → (a || (b || false)) ≡ true
or_first a b h = ap (λ (t : Bool). t || (b || false)) h

or_second : (a b : Bool) → b ≡ true → (a || (b || false)) ≡ true
or_second true b h = refl
or_second false b h = ap (λ (t : Bool). t || false) h

same_key : (a b : ℕ) (x y : ℕ) → a ≡ x → b ≡ y → nat_eq (key_of x y) (key_of a b) ≡ true
same_key a b x y p q = (Decides-eqb (key_of x y) (key_of a b)).1 (omega (arith, p, q))

one_key : (a b x y : ℕ) → b < 2 ^ 32 → y < 2 ^ 32 → nat_eq (key_of x y) (key_of a b) ≡ true → (a ≡ x) × (b ≡ y)
one_key a b x y f g h = let e : key_of x y ≡ key_of a b = (Decides-eqb (key_of x y) (key_of a b)).0 h in (omega (arith, e, f, g), omega (arith, e, f, g))

put_in : (pairs : List (ℕ × ℕ)) (keys : List ℕ) (a b : ℕ) (known : Bool) → b < 2 ^ 32 → AreKeys pairs keys → list_any (nat_eq (key_of a b)) keys ≡ known → AreKeys (pairs ++ (a, b) ∷ []) (cond known keys (keys ++ key_of a b ∷ []))
put_in pairs keys a b true few h is x y g = (
  λ t. Contains-append_left pairs ((a, b) ∷ []) (x, y) ((h x y g).0 t),
  λ there. elim (Contains-push_cases pairs (a, b) (x, y) there) [
    | inl old ↦ (h x y g).1 old
    | inr e ↦
        let p : a ≡ x = ap (λ (q : ℕ × ℕ). q.0) e in
        let r : b ≡ y = ap (λ (q : ℕ × ℕ). q.1) e in
        ap (λ (k : ℕ). list_any (nat_eq k) keys) (let k : key_of x y ≡ key_of a b = omega (arith, p, r) in k) ∙ is
  ],
)
put_in pairs keys a b false few h is x y g =
    let split = list_any-append (nat_eq (key_of x y)) keys (key_of a b ∷ []) in (
      λ t. elim (either (list_any (nat_eq (key_of x y)) keys) (nat_eq (key_of x y) (key_of a b)) (sym split ∙ t)) [
        | inl old ↦ Contains-append_left pairs ((a, b) ∷ []) (x, y) ((h x y g).0 old)
        | inr new ↦
            let e = one_key a b x y few g new in
            subst (λ (q : ℕ × ℕ). Contains (pairs ++ (a, b) ∷ []) q) (ap (λ (n : ℕ). let q : ℕ × ℕ = (n, b) in q) e.0 ∙ ap (λ (n : ℕ). let q : ℕ × ℕ = (x, n) in q) e.1) (Contains-push pairs (a, b))
      ],
      λ there. split ∙ elim (Contains-push_cases pairs (a, b) (x, y) there) [
        | inl old ↦ or_first (list_any (nat_eq (key_of x y)) keys) (nat_eq (key_of x y) (key_of a b)) ((h x y g).1 old)
        | inr e ↦ or_second (list_any (nat_eq (key_of x y)) keys) (nat_eq (key_of x y) (key_of a b)) (same_key a b x y (ap (λ (q : ℕ × ℕ). q.0) e) (ap (λ (q : ℕ × ℕ). q.1) e))
      ],
    )

-- a key that is put, unless it is there, gathers its pair
pub puts : (old new : List ℕ) (a b : ℕ) → b < 2 ^ 32 → new ≡ cond (list_any (nat_eq (key_of a b)) old) old (old ++ key_of a b ∷ []) → Gathers old new ((a, b) ∷ [])
puts old new a b few e pairs h = subst (λ (keys : List ℕ). AreKeys (pairs ++ (a, b) ∷ []) keys) (sym e) (put_in pairs old a b (list_any (nat_eq (key_of a b)) old) few h refl)

-- nothing is put in
pub gathers_none : (keys : List ℕ) → Gathers keys keys []
gathers_none keys pairs h = subst (λ (ps : List (ℕ × ℕ)). AreKeys ps keys) (sym (append-nil pairs)) h

-- one after another
pub gathers_both : (a b c : List ℕ) (first second : List (ℕ × ℕ)) → Gathers a b first → Gathers b c second → Gathers a c (first ++ second)
gathers_both a b c first second f g pairs h = subst (λ (ps : List (ℕ × ℕ)). AreKeys ps c) (append_assoc pairs first second) (g (pairs ++ first) (f pairs h))

-- a loop that puts pairs in
pub gathered_first : (keys : List ℕ) (all : List (ℕ × ℕ)) → HasGathered keys keys all all
gathered_first keys all = record { front = []; split = refl; gathers = gathers_none keys }

-- gathering goes on with what comes next
pub gathered_more : (a b c : List ℕ) (all more left rest : List (ℕ × ℕ)) → HasGathered a b all left → Gathers b c more → left ≡ more ++ rest → HasGathered a c all rest
gathered_more a b c all more left rest h g e = record {
  front = h.front ++ more;
  split = append_assoc h.front more rest ∙ ap (λ (ps : List (ℕ × ℕ)). h.front ++ ps) (sym e) ∙ h.split;
  gathers = gathers_both a b c h.front more h.gathers g;
}

-- with nothing left all is gathered
pub gathered_all : (a b : List ℕ) (all left : List (ℕ × ℕ)) → HasGathered a b all left → left ≡ [] → Gathers a b all
gathered_all a b all left h e = subst (λ (ps : List (ℕ × ℕ)). Gathers a b ps) (sym (append-nil h.front) ∙ ap (λ (ps : List (ℕ × ℕ)). h.front ++ ps) (sym e) ∙ h.split) h.gathers
