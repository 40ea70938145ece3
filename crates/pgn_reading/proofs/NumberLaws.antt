-- Sections are numbered by their places.
use Rattle.std.proofs.Common.{◌≡◌, ℕ, zero, suc, ◌+◌, ◌<◌, List, [], ◌∷◌, length, get_or, arith}
use Rattle.pgn_language.specs.declared.scenario.Section.{Section}
use Rattle.pgn_language.specs.Inputs.{AreNumbered}

-- sections that are numbered on from n: that at place k has the number n + k
pub number-at : (n : ℕ) (sections : List Section) (k : ℕ) (d : Section) → AreNumbered n sections → k < length sections → (get_or sections k d).no ≡ n + k
number-at n [] k d h lt = absurd (omega (arith, lt))
number-at n (section ∷ sections) zero d h lt = omega (arith, h.0)
number-at n (section ∷ sections) (suc k) d h lt = let rest : (get_or sections k d).no ≡ n + 1 + k = number-at (n + 1) sections k d h.1 (omega (arith, lt)) in omega (arith, rest)
