-- The parts of a text, one after another.
use Rattle.std.proofs.Common.{◌≡◌, ℕ, zero, suc, ◌<◌, Bool, true, false, not, inl, inr, List, [], ◌∷◌, ◌++◌, length, take, drop, sym, ap, ◌∙◌, refl, arith, take-append-drop, IsUtf8, IsCharBoundary}
use Rattle.std.specs.List.{list_any, prefix_len}
use Rattle.std.proofs.lemmas.Bool.{cases_Bool, or_from, not-false, not_from_true, not_from_false}
use Rattle.std.proofs.lemmas.Bool.Decides.{nat_tests}
use Rattle.std.proofs.lemmas.List.{append-nil, length-take}
use Rattle.pgn_language.specs.Lines.{is_gap, parts_of}
use Rattle.pgn_language.specs.laws.Tokens.{NoneFollows}
use Rattle.pgn_language.proofs.LineLaws.{parts-are_cut}
use Rattle.pgn_command.proofs.GapLaws.{front-passes, front-fails, front-ends, front-bound, ascii-boundary, ends-boundary}
use Rattle.pgn_scenario.specs.Parting.{past_gap}

-- a byte is none that separates parts
abbrev pub is_part : ℕ → Bool
is_part byte = not (is_gap byte)

gap_ascii : (b : ℕ) → is_gap b ≡ true → b < 128
gap_ascii b h = grind (arith, nat_tests)

-- what separates parts ends between two characters
pub gap-boundary : (bytes : List ℕ) → IsUtf8 bytes → IsCharBoundary bytes (prefix_len is_gap bytes)
gap-boundary bytes u = ascii-boundary is_gap gap_ascii bytes u

-- so does a part
pub part-boundary : (bytes : List ℕ) → IsCharBoundary bytes (prefix_len is_part bytes)
part-boundary bytes = ends-boundary is_part (λ b h. gap_ascii b (not-false (is_gap b) h)) bytes

-- a gap at the front separates nothing
pub parts-past : (text : List ℕ) → parts_of text ≡ parts_of (past_gap text)
parts-past [] = refl
parts-past (b ∷ text) = elim (cases_Bool (is_gap b)) [
  | inl e ↦ parts-are_cut.separated b text e ∙ parts-past text ∙ ap (λ (n : ℕ). parts_of (drop n (b ∷ text))) (sym (front-passes is_gap b text e))
  | inr e ↦ ap (λ (n : ℕ). parts_of (drop n (b ∷ text))) (sym (front-fails is_gap b text e))
]

-- behind what separates parts no more of it follows
pub past-ends : (text : List ℕ) → NoneFollows is_gap (past_gap text)
past-ends text = front-ends is_gap text

-- a part has no gap
no_gap : (text : List ℕ) → list_any is_gap (take (prefix_len is_part text) text) ≡ false
no_gap [] = refl
no_gap (b ∷ text) = elim (cases_Bool (is_gap b)) [
  | inl e ↦ ap (λ (n : ℕ). list_any is_gap (take n (b ∷ text))) (front-fails is_part b text (not_from_true (is_gap b) e))
  | inr e ↦ ap (λ (n : ℕ). list_any is_gap (take n (b ∷ text))) (front-passes is_part b text (not_from_false (is_gap b) e)) ∙ or_from (is_gap b) (list_any is_gap (take (prefix_len is_part text) text)) e (no_gap text)
]

-- where no part begins, nothing is left
pub parts-none : (text : List ℕ) → NoneFollows is_gap text → prefix_len is_part text ≡ 0 → parts_of text ≡ []
parts-none [] h e = refl
parts-none (b ∷ text) h e = absurd (omega (arith, e, front-passes is_part b text (not_from_false (is_gap b) h)))

cut_off : (part rest : List ℕ) → list_any is_gap part ≡ false → 0 < length part → NoneFollows is_part rest → parts_of (part ++ rest) ≡ part ∷ parts_of rest
cut_off part [] none some h = ap parts_of (append-nil part) ∙ parts-are_cut.last part none some
cut_off part (gap ∷ rest) none some h =
    let is : is_gap gap ≡ true = not-false (is_gap gap) h in
    parts-are_cut.ended part rest gap none some is ∙ ap (λ (l : List (List ℕ)). part ∷ l) (sym (parts-are_cut.separated gap rest is))

positive_from : (n : ℕ) → (n ≡ 0 → ⊥) → 0 < n
positive_from zero h = absurd (h refl)
positive_from (suc n) h = omega arith

-- the first part, and the parts after it
pub parts-next : (text : List ℕ) → (prefix_len is_part text ≡ 0 → ⊥) → parts_of text ≡ take (prefix_len is_part text) text ∷ parts_of (drop (prefix_len is_part text) text)
parts-next text some =
    let end : ℕ = prefix_len is_part text in
    let positive : 0 < end = positive_from end some in
    let size : 0 < length (take end text) = omega (arith, length-take end text, front-bound is_part text, positive) in
    ap parts_of (sym (take-append-drop end text)) ∙ cut_off (take end text) (drop end text) (no_gap text) size (front-ends is_part text)
