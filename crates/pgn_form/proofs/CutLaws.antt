-- The lines of a text, cut off one by one.
use Rattle.std.proofs.Common.{◌≡◌, ◌≢◌, ℕ, suc, ◌+◌, ◌<◌, ◌==◌, Bool, true, false, cond, List, [], ◌∷◌, ◌++◌, length, get_or, sym, ap, ◌∙◌, refl, arith, eqb-true, eq-eqb, length-append, take, drop, take-append-drop}
use Rattle.std.proofs.lemmas.List.{drop_more, get_or_default, get_or-take, length-take}
use Rattle.memchr.specs.Find.{Nowhere, NoneBefore, Passes, is_byte}
use Rattle.pgn_reading.specs.Form.{onto_line, whole_lines}
use Rattle.pgn_form.specs.Cuts.{IsCut}

-- no LF stands in these bytes
abbrev IsClean : List ℕ → Type 0
IsClean bytes = (i : ℕ) → i < length bytes → get_or bytes i 0 ≢ 10

clean_rest : (b : ℕ) (bytes : List ℕ) → IsClean (b ∷ bytes) → IsClean bytes
clean_rest b bytes h i l = h (suc i) (omega arith)

clean_first : (b : ℕ) (bytes : List ℕ) → IsClean (b ∷ bytes) → (b == 10) ≡ true → ⊥
clean_first b bytes h is = h 0 (omega arith) (eqb-true b 10 is)

-- so they have no line
no_line : (bytes : List ℕ) → IsClean bytes → whole_lines bytes ≡ []
no_line [] h = refl
no_line (b ∷ bytes) h = by (b == 10) refl (no_line bytes (clean_rest b bytes h))
  where
    by : (c : Bool) → (b == 10) ≡ c → whole_lines bytes ≡ [] → cond c ([] ∷ whole_lines bytes) (onto_line b (whole_lines bytes)) ≡ []
    by true is rest = absurd (clean_first b bytes h is)
    by false is rest = ap (λ (lines : List (List ℕ)). onto_line b lines) rest

-- and are one where an LF follows them
one_line : (front rest : List ℕ) → IsClean front → whole_lines (front ++ 10 ∷ rest) ≡ front ∷ whole_lines rest
one_line [] rest h = refl
one_line (b ∷ front) rest h = by (b == 10) refl (one_line front rest (clean_rest b front h))
  where
    by : (c : Bool) → (b == 10) ≡ c → whole_lines (front ++ 10 ∷ rest) ≡ front ∷ whole_lines rest → cond c ([] ∷ whole_lines (front ++ 10 ∷ rest)) (onto_line b (whole_lines (front ++ 10 ∷ rest))) ≡ (b ∷ front) ∷ whole_lines rest
    by true is all = absurd (clean_first b front h is)
    by false is all = ap (λ (lines : List (List ℕ)). onto_line b lines) all

-- a text without LF has no line
pub cut_nowhere : (text : List ℕ) → Nowhere (Passes (is_byte 10) text) 0 (length text) → whole_lines text ≡ []
cut_nowhere text h = no_line text (λ i l e. h i (omega arith) l (eq-eqb (get_or text i 0) 10 e))

-- a text is cut behind its first LF
pub cut_at : (text : List ℕ) (at : ℕ) → NoneBefore (Passes (is_byte 10) text) 0 (length text) at → Passes (is_byte 10) text at → IsCut text (take at text) (drop (at + 1) text)
cut_at text at h here =
    let within : at < length text = h.high in
    let clean : IsClean (take at text) =
    λ i l e.
    let below : i < at = omega (arith, length-take at text, l) in
    h.before i (omega arith) below (eq-eqb (get_or text i 0) 10 (sym (get_or-take at text i 0 below) ∙ e)) in
    let parts : text ≡ take at text ++ 10 ∷ drop (at + 1) text =
    sym (take-append-drop at text) ∙ ap (λ (x : List ℕ). take at text ++ x) (drop_more text at 0 within ∙ ap (λ (x : ℕ). x ∷ drop (at + 1) text) (eqb-true (get_or text at 0) 10 here)) in
    record {
      parts = parts;
      lines = ap (λ (bytes : List ℕ). whole_lines bytes) parts ∙ one_line (take at text) (drop (at + 1) text) clean;
      one_line = λ there. clean there.0 there.1 (get_or_default (take at text) there.0 0 10 there.1 ∙ there.2);
    }

-- the rest is shorter
pub cut_shorter : (text line rest : List ℕ) → IsCut text line rest → length rest < length text
cut_shorter text line rest c = omega (arith, ap length c.parts, length-append line (10 ∷ rest))
