use Rattle.std.proofs.Common.{◌≡◌, ℕ, List, [], ◌∷◌, ◌++◌, ◌∙◌, append_assoc, codes, decimal}
use Rattle.pgn_text.proofs.PutsLaws.{Puts-same, Puts-trans}
use Rattle.pgn_text.proofs.out.Out.full_floor.Goals as goal

two-numbers : (a b c text : List ℕ) (x y now : ℕ) → x ≡ now
    → (a ++ decimal x) ++ (b ++ decimal y) ++ ((c ++ text) ++ 10 ∷ []) ≡ (a ++ decimal now ++ b ++ decimal y ++ c ++ text) ++ 10 ∷ []
two-numbers a b c text x y now e = rw e (simp append_assoc)

pub returns : goal.returns
returns g c =
    Puts-same (two-numbers (codes " floor ") (codes " page ") (codes " holder ") _ _ _ _ (c.from.ensures ∙ c.get.ensures.value))
    (Puts-trans (Puts-trans c.labelled.ensures c.labelled-2.ensures) c.holder_end.ensures)
