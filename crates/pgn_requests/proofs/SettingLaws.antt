-- Laws of what was set.
use Rattle.std.proofs.Common.{◌≡◌, ℕ, suc, ◌+◌, ◌<◌, ◌≤◌, true, false, inl, inr, List, [], ◌∷◌, ◌++◌, length, get_or, set, sym, ap, ◌∙◌, refl, arith}
use Rattle.std.specs.List.{position_or_len}
use Rattle.std.proofs.lemmas.Bool.{cases_Bool}
use Rattle.pgn_requests.specs.declared.setting.Setting.{Setting}
use Rattle.pgn_requests.specs.declared.settings.Entry.{Entry}
use Rattle.pgn_requests.specs.Settings.{default_of, is_of, value_in, with_value}

-- where a setting stands among what was set
abbrev pub place : Setting → List Entry → ℕ
place setting entries = position_or_len (is_of setting) entries

place-here : (setting : Setting) (x : Entry) (entries : List Entry) → is_of setting x ≡ true → place setting (x ∷ entries) ≡ 0
place-here setting x entries t = rw t refl

place-later : (setting : Setting) (x : Entry) (entries : List Entry) → is_of setting x ≡ false → place setting (x ∷ entries) ≡ suc (place setting entries)
place-later setting x entries f = let h : place setting (x ∷ entries) ≡ 1 + place setting entries = rw f refl in omega (arith, h)

-- a setting that was set has the value that stands at its place
pub value-there : (setting : Setting) (entries : List Entry) (one : Entry) → place setting entries < length entries → one ≡ get_or entries (place setting entries) one → value_in entries setting ≡ one.value
value-there setting [] one l e = absurd (omega (arith, l))
value-there setting (x ∷ entries) one l e = elim (cases_Bool (is_of setting x)) [
  | inl t ↦
      let same : one ≡ x = e ∙ ap (λ (n : ℕ). get_or (x ∷ entries) n one) (place-here setting x entries t) in
      rw t (ap (λ (o : Entry). o.value) (sym same))
  | inr f ↦
      let later : place setting (x ∷ entries) ≡ suc (place setting entries) = place-later setting x entries f in
      let same : one ≡ get_or entries (place setting entries) one = e ∙ ap (λ (n : ℕ). get_or (x ∷ entries) n one) later in
      rw f (value-there setting entries one (omega (arith, l, later)) same)
]

-- one that was not has its default
pub value-nowhere : (setting : Setting) (entries : List Entry) → length entries ≤ place setting entries → value_in entries setting ≡ default_of setting
value-nowhere setting [] l = refl
value-nowhere setting (x ∷ entries) l = elim (cases_Bool (is_of setting x)) [
  | inl t ↦ absurd (omega (arith, l, place-here setting x entries t))
  | inr f ↦ rw f (value-nowhere setting entries (omega (arith, l, place-later setting x entries f)))
]

-- a value that takes the place of another
abbrev pub revalued : Entry → List ℕ → Entry
revalued one value = record { setting = one.setting; value = value }

-- one that was set keeps its place
pub with-there : (setting : Setting) (entries : List Entry) (one : Entry) (value : List ℕ) → place setting entries < length entries → one ≡ get_or entries (place setting entries) one
    → with_value entries setting value ≡ set entries (place setting entries) (revalued one value)
with-there setting [] one value l e = absurd (omega (arith, l))
with-there setting (x ∷ entries) one value l e = elim (cases_Bool (is_of setting x)) [
  | inl t ↦
      let same : one ≡ x = e ∙ ap (λ (n : ℕ). get_or (x ∷ entries) n one) (place-here setting x entries t) in
      let first : with_value (x ∷ entries) setting value ≡ revalued one value ∷ entries = rw t (ap (λ (o : Entry). revalued o value ∷ entries) (sym same)) in
      first ∙ ap (λ (n : ℕ). set (x ∷ entries) n (revalued one value)) (sym (place-here setting x entries t))
  | inr f ↦
      let later : place setting (x ∷ entries) ≡ suc (place setting entries) = place-later setting x entries f in
      let same : one ≡ get_or entries (place setting entries) one = e ∙ ap (λ (n : ℕ). get_or (x ∷ entries) n one) later in
      let rest : with_value entries setting value ≡ set entries (place setting entries) (revalued one value) = with-there setting entries one value (omega (arith, l, later)) same in
      let first : with_value (x ∷ entries) setting value ≡ x ∷ with_value entries setting value = rw f refl in
      first ∙ ap (λ (some : List Entry). x ∷ some) rest ∙ ap (λ (n : ℕ). set (x ∷ entries) n (revalued one value)) (sym later)
]

-- a setting that was not set comes behind those that were
pub with-nowhere : (setting : Setting) (entries : List Entry) (value : List ℕ) → length entries ≤ place setting entries → with_value entries setting value ≡ entries ++ record { setting = setting; value = value } ∷ []
with-nowhere setting [] value l = refl
with-nowhere setting (x ∷ entries) value l = elim (cases_Bool (is_of setting x)) [
  | inl t ↦ absurd (omega (arith, l, place-here setting x entries t))
  | inr f ↦ rw f (ap (λ (some : List Entry). x ∷ some) (with-nowhere setting entries value (omega (arith, l, place-later setting x entries f))))
]
