-- Lists that are compared element by element.
use Rattle.std.proofs.Common.{◌≡◌, ◌≢◌, ◌↔◌, ℕ, Bool, true, false, cond, List, [], ◌∷◌, length, sym, ap, ◌∙◌, refl, subst, inl, inr, arith}
use Rattle.std.specs.Prelude.{bytes_eq}
use Rattle.std.proofs.lemmas.Bool.{cases_Bool, false≢true}
use Rattle.std.proofs.lemmas.Slice.Eq.{bytes_eq-Decides}
use Rattle.pgn_base.specs.declared.note.Note.{Note}
use Rattle.pgn_answers.specs.Savepoints.{same_note}
use Rattle.pgn_answers.proofs.SavepointLemmas.{same_note-same, same_note-true}
use Rattle.pgn_walk.specs.Same.{same_by}

module _ {X : Type 0} (same : X → X → Bool) where
  -- other lengths
  pub same_long : (xs ys : List X) → length xs ≢ length ys → same_by same xs ys ≡ false
  same_long [] [] h = absurd (h refl)
  same_long [] (y ∷ ys) h = refl
  same_long (x ∷ xs) [] h = refl
  same_long (x ∷ xs) (y ∷ ys) h = elim (cases_Bool (same x y)) [
    | inl is ↦ ap (λ (b : Bool). cond b (same_by same xs ys) false) is ∙ same_long xs ys (λ e. h (omega (arith, e)))
    | inr off ↦ ap (λ (b : Bool). cond b (same_by same xs ys) false) off
  ]

  -- where the test tells equality, so does the comparison
  same_is : ((x y : X) → same x y ≡ true → x ≡ y) → (xs ys : List X) → same_by same xs ys ≡ true → xs ≡ ys
  same_is tells [] [] h = refl
  same_is tells [] (y ∷ ys) h = absurd (false≢true h)
  same_is tells (x ∷ xs) [] h = absurd (false≢true h)
  same_is tells (x ∷ xs) (y ∷ ys) h = elim (cases_Bool (same x y)) [
    | inl is ↦
        let rest : xs ≡ ys = same_is tells xs ys (sym (ap (λ (b : Bool). cond b (same_by same xs ys) false) is) ∙ h) in
        ap (λ (z : X). z ∷ xs) (tells x y is) ∙ ap (λ (them : List X). y ∷ them) rest
    | inr off ↦ absurd (false≢true (sym (ap (λ (b : Bool). cond b (same_by same xs ys) false) off) ∙ h))
  ]

  is_same : ((x : X) → same x x ≡ true) → (xs : List X) → same_by same xs xs ≡ true
  is_same itself [] = refl
  is_same itself (x ∷ xs) = ap (λ (b : Bool). cond b (same_by same xs xs) false) (itself x) ∙ is_same itself xs

-- the test of notifications finds the same ones equal, and no others
pub notes_are : (a b : List Note) → (same_by same_note a b ≡ true) ↔ (a ≡ b)
notes_are a b = (same_is same_note same_note-true a b, λ e. subst (λ (them : List Note). same_by same_note a them ≡ true) e (is_same same_note same_note-same a))

-- the test of names finds the same ones equal, and no others
pub names_are : (a b : List (List ℕ)) → (same_by bytes_eq a b ≡ true) ↔ (a ≡ b)
names_are a b = (same_is bytes_eq (λ x y. (bytes_eq-Decides x y).0) a b, λ e. subst (λ (them : List (List ℕ)). same_by bytes_eq a them ≡ true) e (is_same bytes_eq (λ x. (bytes_eq-Decides x x).1 refl) a))
