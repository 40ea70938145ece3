use Rattle.std.proofs.Common.{◌≡◌, ℕ, List, ◌++◌, ◌∙◌, append_assoc, codes, decimal}
use Rattle.pgn_text.proofs.PutsLaws.{Puts-same, Puts-trans}
use Rattle.pgn_text.proofs.out.Out.full_head.Goals as goal

three-numbers : (a b c : List ℕ) (x y z now after : ℕ) → x ≡ now → y ≡ after
    → (a ++ decimal x) ++ (b ++ decimal y) ++ (c ++ decimal z) ≡ a ++ decimal now ++ b ++ decimal after ++ c ++ decimal z
three-numbers a b c x y z now after e f = rw (e, f) (simp append_assoc)

pub returns : goal.returns
returns g c =
    Puts-same (three-numbers (codes "+full ") (codes " queued ") (codes " head ") _ _ _ _ _ (c.from.ensures ∙ c.get.ensures.value) c.from-2.ensures)
    (Puts-trans (Puts-trans c.labelled.ensures c.labelled-2.ensures) c.labelled-3.ensures)
