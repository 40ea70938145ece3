-- Proofs of the laws of how far a reader is behind.
use Rattle.std.proofs.Common.{◌≡◌, ℕ, zero, suc, ◌+◌, ◌-◌, ◌≤◌, Bool, true, false, ◌||◌, List, [], ◌∷◌, ◌++◌, take, drop, sym, ap, ◌∙◌, refl, subst, arith, inl, inr}
use Rattle.std.specs.List.{list_any}
use Rattle.std.proofs.lemmas.Bool.{cases_lt}
use Rattle.std.proofs.lemmas.List.{take-take, take-append-le, drop-take, drop-drop, drop_all, length-take}
use Rattle.pgn_journal.specs.declared.tx.Tx.{Tx}
use Rattle.pgn_journal.specs.Packing.{place}
use Rattle.pgn_journal.specs.Near.{Near}
use Rattle.pgn_journal.specs.laws.Near.{NearShrinks, NearItself, NearGrows}
use Rattle.pgn_journal.proofs.PackingLemmas.{place_grows, places_agree}

first_no : (a b : Bool) → (a || b) ≡ false → a ≡ false
first_no true b h = h
first_no false b h = refl

rest_no : (a b : Bool) → (a || b) ≡ false → b ≡ false
rest_no true b h = absurd (let no : ⊥ = cc in no)
rest_no false b h = h

-- none of a list, none of its rest
none-drop : (p : Tx → Bool) (k : ℕ) (xs : List Tx) → list_any p xs ≡ false → list_any p (drop k xs) ≡ false
none-drop p zero xs h = h
none-drop p (suc k) [] h = refl
none-drop p (suc k) (x ∷ xs) h = none-drop p k xs (rest_no (p x) (list_any p xs) h)

-- none of a list, none of its prefix
none-take : (p : Tx → Bool) (k : ℕ) (xs : List Tx) → list_any p xs ≡ false → list_any p (take k xs) ≡ false
none-take p zero xs h = refl
none-take p (suc k) [] h = refl
none-take p (suc k) (x ∷ xs) h = ap (λ b. b || list_any p (take k xs)) (first_no (p x) (list_any p xs) h) ∙ none-take p k xs (rest_no (p x) (list_any p xs) h)

-- none of a part of a list, none of a part within it
pub none-within : (p : Tx → Bool) (xs : List Tx) (a b c d : ℕ) → a ≤ c → d ≤ b → list_any p (drop a (take b xs)) ≡ false → list_any p (drop c (take d xs)) ≡ false
none-within p xs a b c d from to h = elim (cases_lt c d) as (λ _. list_any p (drop c (take d xs)) ≡ false) [
  | inl lt ↦
      let ys = take b xs in
      let back : drop (c - a) (drop a ys) ≡ drop c ys = drop-drop (c - a) a ys ∙ ap (λ (n : ℕ). drop n ys) (let sum : a + (c - a) ≡ c = omega arith in sum) in
      let part : drop c (take d ys) ≡ take (d - c) (drop c ys) = ap (λ (n : ℕ). drop c (take n ys)) (let sum : d ≡ c + (d - c) = omega arith in sum) ∙ drop-take c (d - c) ys in
      let none : list_any p (take (d - c) (drop c ys)) ≡ false = none-take p (d - c) (drop c ys) (subst (λ (zs : List Tx). list_any p zs ≡ false) back (none-drop p (c - a) (drop a ys) h)) in
      ap (λ (zs : List Tx). list_any p (drop c zs)) (sym (take-take d b xs to)) ∙ ap (list_any p) part ∙ none
  | inr ge ↦ ap (list_any p) (drop_all c (take d xs) (simp length-take (omega arith)))
]

-- what is near stays so for a later mark, and up to an earlier number
pub near-shrinks : NearShrinks
near-shrinks format matters journal m n x y down up h = record {
  nothing_due = none-within matters journal (m - 3) (x - 3) (n - 3) (y - 3) (omega arith) (omega arith) h.nothing_due;
  few_pages = omega (arith, h.few_pages, place_grows format journal y x down, place_grows format journal m n up);
}

-- a mark is near to itself, and to what is below it
pub near-itself : NearItself
near-itself format matters journal m x below = record {
  nothing_due = ap (list_any matters) (drop_all (m - 3) (take (x - 3) journal) (simp length-take (omega arith)));
  few_pages = omega (arith, place_grows format journal x m below);
}

-- what is near stays so as the journal grows
pub near-grows : NearGrows
near-grows format matters journal more m x within h = elim (cases_lt m x) as (λ _. Near format matters (journal ++ more) m x) [
  | inl lt ↦ record {
    nothing_due = ap (λ (xs : List Tx). list_any matters (drop (m - 3) xs)) (take-append-le (x - 3) journal more (omega arith)) ∙ h.nothing_due;
    few_pages =
        let here : place format (journal ++ more) m ≡ place format journal m = places_agree format journal more m (omega arith) in
        let there : place format (journal ++ more) x ≡ place format journal x = places_agree format journal more x within in
        omega (arith, h.few_pages, here, there);
  }
  | inr ge ↦ near-itself format matters (journal ++ more) m x ge
]
