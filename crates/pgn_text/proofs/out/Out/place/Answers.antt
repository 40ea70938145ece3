use Rattle.std.proofs.Common.{◌≡◌, ℕ, List, ◌++◌, ◌∙◌, refl, codes, decimal}
use Rattle.pgn_text.proofs.PutsLaws.{Puts-same, Puts-trans}
use Rattle.pgn_text.proofs.out.Out.place.Goals as goal

placed : (a b name seen : List ℕ) (x y now after : ℕ) → x ≡ now → seen ≡ name → y ≡ after → decimal x ++ a ++ seen ++ b ++ decimal y ≡ decimal now ++ a ++ name ++ b ++ decimal after
placed a b name seen x y now after e f h = rw (e, f, h) refl

pub returns : goal.returns
returns g c =
    Puts-same (placed (codes " ") (codes " db ") _ _ _ _ _ _ (c.from.ensures ∙ c.get.ensures.value) c.as_bytes.ensures.value (c.from-2.ensures ∙ c.get-2.ensures.value))
    (Puts-trans (Puts-trans (Puts-trans (Puts-trans c.number.ensures c.text.ensures) c.text-2.ensures) c.text-3.ensures) c.number-2.ensures)
