use Rattle.std.proofs.Common.{◌≡◌, ℕ, List, [], ◌∷◌, ◌++◌, append_assoc, codes, decimal}
use Rattle.pgn_text.proofs.PutsLaws.{Puts-same, Puts-trans}
use Rattle.pgn_text.proofs.out.Out.usage_pages.Goals as goal

pages : (m a b : List ℕ) (x y now : ℕ) → y ≡ now → m ++ (a ++ decimal x) ++ ((b ++ decimal y) ++ 10 ∷ []) ≡ (m ++ (a ++ decimal x ++ b ++ decimal now)) ++ 10 ∷ []
pages m a b x y now e = rw e (simp append_assoc)

pub returns : goal.returns
returns g c = Puts-same (pages _ (codes "  ") (codes "/") _ _ _ c.from.ensures) (Puts-trans (Puts-trans c.mark.ensures c.labelled.ensures) c.number_end.ensures)
