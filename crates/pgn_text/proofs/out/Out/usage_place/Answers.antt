use Rattle.std.proofs.Common.{◌≡◌, ℕ, List, [], ◌∷◌, ◌++◌, ◌∙◌, append_assoc, codes, decimal}
use Rattle.pgn_text.proofs.PutsLaws.{Puts-same, Puts-trans}
use Rattle.pgn_text.proofs.out.Out.usage_place.Goals as goal

placed : (m a b c text : List ℕ) (x y now after : ℕ) → x ≡ now → y ≡ after
    → m ++ (a ++ decimal x) ++ (b ++ decimal y) ++ ((c ++ text) ++ 10 ∷ []) ≡ (m ++ (a ++ decimal now ++ b ++ decimal after ++ c ++ text)) ++ 10 ∷ []
placed m a b c text x y now after e f = rw (e, f) (simp append_assoc)

pub returns : goal.returns
returns g c =
    Puts-same (placed _ (codes "+usage ") (codes " floor ") (codes " holder ") _ _ _ _ _ (c.from.ensures ∙ c.get.ensures.value) (c.from-2.ensures ∙ c.get-2.ensures.value))
    (Puts-trans (Puts-trans (Puts-trans c.mark.ensures c.labelled.ensures) c.labelled-2.ensures) c.holder_end.ensures)
