-- Where a text is cut, and the blanks at the end of a line.
use Rattle.std.proofs.Common.{◌≡◌, ℕ, suc, ◌+◌, ◌<◌, ◌==◌, true, false, List, [], ◌∷◌, ◌++◌, length, take, drop, reverse, get_or, sym, ap, ◌∙◌, refl, arith, eqb-true, take-append-drop}
use Rattle.std.specs.List.{list_any, prefix_len}
use Rattle.std.proofs.lemmas.Bool.{or_from, false_from_ne_true, not_from_false}
use Rattle.std.proofs.lemmas.List.{take_all, drop_all, drop_more, drop_at, get_or-take, length-take, length-drop, length-reverse, reverse-append, reverse-reverse}
use Rattle.memchr.specs.Find.{Nowhere, NoneBefore, Passes, is_byte}
use Rattle.pgn_language.specs.Tokens.{is_blank}
use Rattle.pgn_language.specs.Lines.{trimmed_end, lines_of}
use Rattle.pgn_language.proofs.LineLaws.{lines_last}
use Rattle.pgn_language.specs.laws.Inputs.{lacks}
use Rattle.pgn_scenario.specs.Cutting.{IsCutAt}

-- where no byte passes the comparison, the search finds none
pub none_any : (byte : ℕ) (xs : List ℕ) → ((k : ℕ) → k < length xs → (get_or xs k 0 == byte) ≡ true → ⊥) → list_any (λ b. b == byte) xs ≡ false
none_any byte [] h = refl
none_any byte (x ∷ xs) h =
    or_from (x == byte) (list_any (λ b. b == byte) xs) (false_from_ne_true (x == byte) (h 0 (omega arith))) (none_any byte xs (λ k l e. h (suc k) (omega (arith, l)) e))

-- a text in which a byte is found nowhere lacks it
pub cut_nowhere : (byte : ℕ) (text : List ℕ) → Nowhere (Passes (is_byte byte) text) 0 (length text) → lacks byte text ≡ true
cut_nowhere byte text h = not_from_false (list_any (λ b. b == byte) text) (none_any byte text (λ k l. h k (omega arith) l))

-- a text is cut at the first place of a byte
pub cut_at : (byte : ℕ) (text : List ℕ) (at : ℕ) → NoneBefore (Passes (is_byte byte) text) 0 (length text) at → Passes (is_byte byte) text at → IsCutAt byte text (take at text) (drop (at + 1) text)
cut_at byte text at h here =
    let within : at < length text = h.high in
    let front : lacks byte (take at text) ≡ true
    = not_from_false (list_any (λ b. b == byte) (take at text)) (none_any byte (take at text)
    (λ k l e. let below : k < at = omega (arith, length-take at text, l) in h.before k (omega arith) below (ap (λ (x : ℕ). x == byte) (sym (get_or-take at text k 0 below)) ∙ e))) in
    record {
      first = front;
      whole = sym (take-append-drop at text) ∙ ap (λ (x : List ℕ). take at text ++ x) (drop_more text at 0 within ∙ ap (λ (x : ℕ). x ∷ drop (at + 1) text) (eqb-true (get_or text at 0) byte here));
    }

-- a text without what is cut off its end
drop_reversed : (line : List ℕ) (end k : ℕ) → end + k ≡ length line → reverse (drop k (reverse line)) ≡ take end line
drop_reversed line end k e =
    let turned : reverse line ≡ reverse (drop end line) ++ reverse (take end line) = ap reverse (sym (take-append-drop end line)) ∙ reverse-append (take end line) (drop end line) in
    let size : length (reverse (drop end line)) ≡ k = omega (arith, length-reverse (drop end line), length-drop end line, e) in
    ap (λ (l : List ℕ). reverse (drop k l)) turned ∙ ap reverse (drop_at (reverse (drop end line)) (reverse (take end line)) k size) ∙ reverse-reverse (take end line)

-- a line without the blanks at its end ends where they begin
pub trimmed_to : (line : List ℕ) (end : ℕ) → end + prefix_len is_blank (reverse line) ≡ length line → trimmed_end line ≡ take end line
trimmed_to line end e = drop_reversed line end (prefix_len is_blank (reverse line)) e

-- the last line, as it is cut off at the text's end
pub lines-uncut : (text front back : List ℕ) → 0 < length text → lacks 10 text ≡ true → front ≡ take (length text) text → back ≡ drop (length text) text → lines_of text ≡ front ∷ lines_of back
lines-uncut text front back some h f b =
    let whole : front ≡ text = f ∙ take_all (length text) text (omega arith) in
    let none : back ≡ [] = b ∙ drop_all (length text) text (omega arith) in
    rw (whole, none) (lines_last text h some)
