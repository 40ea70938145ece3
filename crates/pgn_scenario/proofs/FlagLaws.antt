-- A flag that is awaited for the first time.
use Rattle.std.proofs.Common.{◌≡◌, ℕ, Bool, true, false, cond, inl, inr, List, [], ◌∷◌, ◌++◌, Some, sym, ap, ◌∙◌, refl, subst, is_some, bytes_eq}
use Rattle.std.specs.Map.{lookup}
use Rattle.std.proofs.lemmas.Bool.{cases_Bool, false≢true, cond-false}
use Rattle.indexmap.specs.IndexMap.{insert_entry}
use Rattle.pgn_scenario.specs.Flags.{has_wait, with_wait}

insert-absent : (awaited : List (List ℕ × ℕ)) (flag : List ℕ) (line : ℕ) → has_wait awaited flag ≡ false → insert_entry bytes_eq awaited flag line ≡ awaited ++ (flag, line) ∷ []
insert-absent [] flag line h = refl
insert-absent (wait ∷ awaited) flag line h = elim (cases_Bool (bytes_eq flag wait.0)) [
  | inl e ↦ let found : true ≡ false = subst (λ (b : Bool). is_some (cond b (Some wait.1) (lookup (bytes_eq flag) awaited)) ≡ false) e h in absurd (false≢true (sym found))
  | inr e ↦
      let rest : has_wait awaited flag ≡ false = subst (λ (b : Bool). is_some (cond b (Some wait.1) (lookup (bytes_eq flag) awaited)) ≡ false) e h in
      let more : insert_entry bytes_eq awaited flag line ≡ awaited ++ (flag, line) ∷ [] = insert-absent awaited flag line rest in
      rw e (ap (λ (l : List (List ℕ × ℕ)). wait ∷ l) more)
]

-- a flag that is not awaited yet is put with the line that awaits it
pub wait-new : (awaited after : List (List ℕ × ℕ)) (flag copy : List ℕ) (line : ℕ) → copy ≡ flag → has_wait awaited copy ≡ false → after ≡ insert_entry bytes_eq awaited copy line → after ≡ with_wait awaited flag line
wait-new awaited after flag copy line e h a =
    let none : has_wait awaited flag ≡ false = ap (has_wait awaited) (sym e) ∙ h in
    a ∙ ap (λ (f : List ℕ). insert_entry bytes_eq awaited f line) e ∙ insert-absent awaited flag line none ∙ sym (cond-false (has_wait awaited flag) awaited (awaited ++ (flag, line) ∷ []) none)
