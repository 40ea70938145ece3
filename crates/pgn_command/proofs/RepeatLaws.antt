-- Texts that are repeated.
use Rattle.std.proofs.Common.{◌≡◌, ℕ, zero, suc, ◌+◌, List, ◌++◌, sym, ap, ◌∙◌, append_assoc, append-nil, arith}
use Rattle.std.specs.List.{repeat}

-- so many times and then more times
repeat-add : (more less : ℕ) (text : List ℕ) → repeat more text ++ repeat less text ≡ repeat (more + less) text
repeat-add zero less text = let same : less ≡ 0 + less = omega arith in ap (λ (n : ℕ). repeat n text) same
repeat-add (suc more) less text =
    let next : suc (more + less) ≡ suc more + less = omega arith in
    append_assoc text (repeat more text) (repeat less text) ∙ ap (λ (l : List ℕ). text ++ l) (repeat-add more less text) ∙ ap (λ (n : ℕ). repeat n text) next

-- twice half as often
pub repeat-even : (count half : ℕ) (text : List ℕ) → half + half ≡ count → repeat half text ++ repeat half text ≡ repeat count text
repeat-even count half text e = repeat-add half half text ∙ ap (λ (n : ℕ). repeat n text) e

-- and once more
pub repeat-odd : (count half : ℕ) (text : List ℕ) → half + half + 1 ≡ count → repeat half text ++ repeat half text ++ text ≡ repeat count text
repeat-odd count half text e =
    ap (λ (l : List ℕ). l ++ text) (repeat-add half half text) ∙ ap (λ (l : List ℕ). repeat (half + half) text ++ l) (sym (append-nil text))
    ∙ repeat-add (half + half) 1 text ∙ ap (λ (n : ℕ). repeat n text) e
