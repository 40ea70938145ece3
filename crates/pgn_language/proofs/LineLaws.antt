-- Laws of lines, of their texts and of the parts of meta lines.
use Rattle.std.proofs.Common.{◌≡◌, ◌↔◌, ℕ, suc, ◌+◌, ◌<◌, Bool, true, false, cond, not, ◌||◌, ◌==◌, inl, inr, List, [], ◌∷◌, ◌++◌, length, take, drop, reverse, filter, sym, ap, ◌∙◌, refl, subst, arith, append_assoc}
use Rattle.std.specs.List.{list_all, list_any, prefix_len, onto_first, slice_split}
use Rattle.std.proofs.lemmas.Bool.{and_parts, and_from, cond-false, cases_Bool, false≢true}
use Rattle.std.proofs.lemmas.List.{take-append-drop, reverse-append, reverse-reverse, append-nil}
use Rattle.std.proofs.lemmas.List.Folds.{list_all-append}
use Rattle.pgn_language.specs.Tokens.{is_blank}
use Rattle.pgn_language.specs.Lines.{trimmed, trimmed_start, trimmed_end, is_gap, is_empty, parts_of, lines_of}
use Rattle.pgn_language.specs.laws.Inputs.{lacks, IsTextOf, PartsAreCut}

-- a line that ends with LF, and the lines of what follows
pub lines-cut : (line rest : List ℕ) → lacks 10 line ≡ true → lines_of (line ++ 10 ∷ rest) ≡ line ∷ lines_of rest
lines-cut [] rest h = refl
lines-cut (x ∷ line) rest h = elim (cases_Bool (x == 10)) [
  | inl e ↦ let no_more : not (true || list_any (λ b. b == 10) line) ≡ true = subst (λ (t : Bool). not (t || list_any (λ b. b == 10) line) ≡ true) e h in absurd (false≢true no_more)
  | inr e ↦
      let more : lacks 10 line ≡ true = subst (λ (t : Bool). not (t || list_any (λ b. b == 10) line) ≡ true) e h in
      cond-false (x == 10) ([] ∷ lines_of (line ++ 10 ∷ rest)) (onto_first x (lines_of (line ++ 10 ∷ rest))) e ∙ ap (onto_first x) (lines-cut line rest more)
]

-- a text that lacks a byte begins with another, and the rest of it lacks the byte too
pub lacks-parts : (x : ℕ) (line : List ℕ) → lacks 10 (x ∷ line) ≡ true → ((x == 10) ≡ false) × (lacks 10 line ≡ true)
lacks-parts x line h = elim (cases_Bool (x == 10)) [
  | inl e ↦ let no_more : not (true || list_any (λ b. b == 10) line) ≡ true = subst (λ (t : Bool). not (t || list_any (λ b. b == 10) line) ≡ true) e h in absurd (false≢true no_more)
  | inr e ↦ (e, subst (λ (t : Bool). not (t || list_any (λ b. b == 10) line) ≡ true) e h)
]

-- the last line, without LF
last_line : (x : ℕ) (line : List ℕ) → lacks 10 (x ∷ line) ≡ true → lines_of (x ∷ line) ≡ (x ∷ line) ∷ []
last_line x [] h = cond-false (x == 10) ([] ∷ []) ((x ∷ []) ∷ []) (lacks-parts x [] h).0
last_line x (y ∷ line) h =
    let parts : ((x == 10) ≡ false) × (lacks 10 (y ∷ line) ≡ true) = lacks-parts x (y ∷ line) h in
    cond-false (x == 10) ([] ∷ lines_of (y ∷ line)) (onto_first x (lines_of (y ∷ line))) parts.0 ∙ ap (onto_first x) (last_line y line parts.1)

-- some bytes without LF are one line
pub lines_last : (line : List ℕ) → lacks 10 line ≡ true → 0 < length line → lines_of line ≡ line ∷ []
lines_last [] h some = absurd (omega arith)
lines_last (x ∷ line) h some = last_line x line h

-- one element more is taken and dropped
take_more : {X : Type 0} (n : ℕ) (x : X) (xs : List X) → take (1 + n) (x ∷ xs) ≡ x ∷ take n xs
take_more n x xs = let more : 1 + n ≡ suc n = omega arith in ap (λ (k : ℕ). take k (x ∷ xs)) more

drop_more : {X : Type 0} (n : ℕ) (x : X) (xs : List X) → drop (1 + n) (x ∷ xs) ≡ drop n xs
drop_more n x xs = let more : 1 + n ≡ suc n = omega arith in ap (λ (k : ℕ). drop k (x ∷ xs)) more

-- what stands before the first element that fails passes
passes_before : {X : Type 0} (p : X → Bool) (xs : List X) → list_all p (take (prefix_len p xs) xs) ≡ true
passes_before p [] = refl
passes_before p (x ∷ xs) = elim (cases_Bool (p x)) [
  | inl e ↦ rw (e, take_more (prefix_len p xs) x xs) (and_from (p x) (list_all p (take (prefix_len p xs) xs)) e (passes_before p xs))
  | inr e ↦ rw e refl
]

-- and it is the first that is left
fails_at : {X : Type 0} (p : X → Bool) (xs : List X) (y : X) (ys : List X) → drop (prefix_len p xs) xs ≡ y ∷ ys → p y ≡ false
fails_at p [] y ys h = absurd (cc)
fails_at p (x ∷ xs) y ys h = elim (cases_Bool (p x)) [
  | inl e ↦ fails_at p xs y ys (sym (drop_more (prefix_len p xs) x xs) ∙ subst (λ (b : Bool). drop (cond b (1 + prefix_len p xs) 0) (x ∷ xs) ≡ y ∷ ys) e h)
  | inr e ↦
      let same : x ∷ xs ≡ y ∷ ys = subst (λ (b : Bool). drop (cond b (1 + prefix_len p xs) 0) (x ∷ xs) ≡ y ∷ ys) e h in
      let first : x ≡ y = cc in
      ap p (sym first) ∙ e
]

-- what passes is dropped, before what does not begin with such an element
drops : {X : Type 0} (p : X → Bool) (before rest : List X) → list_all p before ≡ true → ((y : X) (ys : List X) → rest ≡ y ∷ ys → p y ≡ false) → drop (prefix_len p (before ++ rest)) (before ++ rest) ≡ rest
drops p [] [] h f = refl
drops p [] (y ∷ ys) h f = rw (f y ys refl) refl
drops p (x ∷ before) rest h f =
    let parts : (p x ≡ true) × (list_all p before ≡ true) = and_parts (p x) (list_all p before) h in
    rw (parts.0, drop_more (prefix_len p (before ++ rest)) x (before ++ rest)) (drops p before rest parts.1 f)

-- a blank list reversed is blank
reversed_passes : {X : Type 0} (p : X → Bool) (xs : List X) → list_all p xs ≡ true → list_all p (reverse xs) ≡ true
reversed_passes p [] h = refl
reversed_passes p (x ∷ xs) h =
    let parts : (p x ≡ true) × (list_all p xs ≡ true) = and_parts (p x) (list_all p xs) h in
    let one : list_all p (x ∷ []) ≡ true = and_from (p x) true parts.0 refl in
    ap (list_all p) (reverse-append (x ∷ []) xs) ∙ list_all-append p (reverse xs) (x ∷ []) ∙ and_from (list_all p (reverse xs)) (list_all p (x ∷ [])) (reversed_passes p xs parts.1) one

both_pass : {X : Type 0} (p : X → Bool) (xs ys : List X) → list_all p xs ≡ true → list_all p ys ≡ true → list_all p (xs ++ ys) ≡ true
both_pass p xs ys h k = list_all-append p xs ys ∙ and_from (list_all p xs) (list_all p ys) h k

-- a blank line has no text
pub trimmed-blank : (line : List ℕ) → list_all is_blank line ≡ true → trimmed line ≡ []
trimmed-blank line h =
    let nothing : drop (prefix_len is_blank (line ++ [])) (line ++ []) ≡ [] = drops is_blank line [] h (λ y ys e. absurd (cc)) in
    let start : trimmed_start line ≡ [] = ap trimmed_start (sym (append-nil line)) ∙ nothing in
    ap trimmed_end start

-- a text between blanks is what is trimmed
trimmed-is : (before text after : List ℕ) → list_all is_blank before ≡ true → list_all is_blank after ≡ true
    → ((byte : ℕ) (rest : List ℕ) → text ≡ byte ∷ rest → is_blank byte ≡ false) → ((byte : ℕ) (front : List ℕ) → text ≡ front ++ byte ∷ [] → is_blank byte ≡ false)
    → text ≡ trimmed (before ++ text ++ after)
trimmed-is before [] after h k f l = sym (ap (λ (t : List ℕ). trimmed (t ++ after)) (append-nil before) ∙ trimmed-blank (before ++ after) (both_pass is_blank before after h k))
trimmed-is before (x ∷ text) after h k f l =
    let start : trimmed_start (before ++ (x ∷ text) ++ after) ≡ (x ∷ text) ++ after
    = ap trimmed_start (append_assoc before (x ∷ text) after) ∙ drops is_blank before ((x ∷ text) ++ after) h (λ y ys e. f y text (let same : x ≡ y = cc in ap (λ (b : ℕ). b ∷ text) same)) in
    let turned : reverse ((x ∷ text) ++ after) ≡ reverse after ++ reverse (x ∷ text) = reverse-append (x ∷ text) after in
    let end : trimmed_start (reverse after ++ reverse (x ∷ text)) ≡ reverse (x ∷ text)
    = drops is_blank (reverse after) (reverse (x ∷ text)) (reversed_passes is_blank after k)
    (λ y ys e. l y (reverse ys) (sym (reverse-reverse (x ∷ text)) ∙ ap reverse e ∙ reverse-append (y ∷ []) ys)) in
    sym (ap trimmed_end start ∙ ap (λ (t : List ℕ). reverse (trimmed_start t)) turned ∙ ap reverse end ∙ reverse-reverse (x ∷ text))

-- what is trimmed is a text between blanks
pub is-trimmed : (line : List ℕ) → IsTextOf line (trimmed line)
is-trimmed line =
    let start : List ℕ = trimmed_start line in
    let turned : List ℕ = reverse start in
    let blanks : List ℕ = take (prefix_len is_blank turned) turned in
    let rest : turned ≡ blanks ++ trimmed_start turned = sym (take-append-drop (prefix_len is_blank turned) turned) in
    let parts : start ≡ trimmed line ++ reverse blanks = sym (reverse-reverse start) ∙ ap reverse rest ∙ reverse-append blanks (trimmed_start turned) in
    record {
      before = take (prefix_len is_blank line) line;
      after = reverse blanks;
      whole = sym (take-append-drop (prefix_len is_blank line) line) ∙ ap (λ (t : List ℕ). take (prefix_len is_blank line) line ++ t) parts
          ∙ sym (append_assoc (take (prefix_len is_blank line) line) (trimmed line) (reverse blanks));
      blank_before = passes_before is_blank line;
      blank_after = reversed_passes is_blank blanks (passes_before is_blank turned);
      first = λ byte more e. fails_at is_blank line byte (more ++ reverse blanks) (parts ∙ ap (λ (t : List ℕ). t ++ reverse blanks) e);
      last = λ byte front e. fails_at is_blank turned byte (reverse front) (sym (reverse-reverse (trimmed_start turned)) ∙ ap reverse e ∙ reverse-append front (byte ∷ []));
    }

-- a line has one text: what is left of it without the blanks at its ends
pub texts-trimmed : (line text : List ℕ) → IsTextOf line text ↔ (text ≡ trimmed line)
texts-trimmed line text = (
  (λ h. trimmed-is h.before text h.after h.blank_before h.blank_after h.first h.last ∙ ap trimmed (sym h.whole)),
  (λ e. subst (λ (t : List ℕ). IsTextOf line t) (sym e) (is-trimmed line)),
)

-- a part that a gap follows
split-cut : (part rest : List ℕ) (gap : ℕ) → list_any is_gap part ≡ false → is_gap gap ≡ true → slice_split is_gap (part ++ gap ∷ rest) ≡ part ∷ slice_split is_gap rest
split-cut [] rest gap h e = rw e refl
split-cut (x ∷ part) rest gap h e = elim (cases_Bool (is_gap x)) [
  | inl f ↦ let none : true ≡ false = subst (λ (b : Bool). b || list_any is_gap part ≡ false) f h in absurd (false≢true (sym none))
  | inr f ↦
      let more : list_any is_gap part ≡ false = subst (λ (b : Bool). b || list_any is_gap part ≡ false) f h in
      cond-false (is_gap x) ([] ∷ slice_split is_gap (part ++ gap ∷ rest)) (onto_first x (slice_split is_gap (part ++ gap ∷ rest))) f ∙ ap (onto_first x) (split-cut part rest gap more e)
]

-- a part that is the last
split-last : (part : List ℕ) → list_any is_gap part ≡ false → slice_split is_gap part ≡ part ∷ []
split-last [] h = refl
split-last (x ∷ part) h = elim (cases_Bool (is_gap x)) [
  | inl f ↦ let none : true ≡ false = subst (λ (b : Bool). b || list_any is_gap part ≡ false) f h in absurd (false≢true (sym none))
  | inr f ↦
      let more : list_any is_gap part ≡ false = subst (λ (b : Bool). b || list_any is_gap part ≡ false) f h in
      cond-false (is_gap x) ([] ∷ slice_split is_gap part) (onto_first x (slice_split is_gap part)) f ∙ ap (onto_first x) (split-last part more)
]

-- a part with a byte stays
kept : (x : ℕ) (part : List ℕ) (parts : List (List ℕ)) → filter (λ p. not (is_empty p)) ((x ∷ part) ∷ parts) ≡ (x ∷ part) ∷ filter (λ p. not (is_empty p)) parts
kept x part parts = refl

parts_ended : (part rest : List ℕ) (gap : ℕ) → list_any is_gap part ≡ false → 0 < length part → is_gap gap ≡ true → parts_of (part ++ gap ∷ rest) ≡ part ∷ parts_of rest
parts_ended [] rest gap h some e = absurd (omega arith)
parts_ended (x ∷ part) rest gap h some e = ap (filter (λ p. not (is_empty p))) (split-cut (x ∷ part) rest gap h e) ∙ kept x part (slice_split is_gap rest)

parts_last : (part : List ℕ) → list_any is_gap part ≡ false → 0 < length part → parts_of part ≡ part ∷ []
parts_last [] h some = absurd (omega arith)
parts_last (x ∷ part) h some = ap (filter (λ p. not (is_empty p))) (split-last (x ∷ part) h) ∙ kept x part []

-- parts are cut at blanks, however many, and the last one ends with the text
pub parts-are_cut : PartsAreCut
parts-are_cut = record {
  ended = parts_ended;
  last = parts_last;
  separated = λ gap rest e. ap (filter (λ p. not (is_empty p))) (split-cut [] rest gap refl e);
  none = refl;
}
