use Rattle.std.proofs.Common.{◌≡◌, ℕ, true, false, List, [], ◌∷◌, ◌++◌, length, refl, ap, arith}
use Rattle.pgn_outlet.specs.declared.came.Came.{Came}
use Rattle.pgn_outlet.specs.Cames.{what_of}
use Rattle.pgn_outlet.specs.Rule.{Comes, hand}
use Rattle.pgn_part_examples.specs.Outlet.{number_of}
use Rattle.pgn_outlet.proofs.KeptLaws.{learns}
use Rattle.pgn_part_examples.proofs.outlet.refused.Goals as goal

-- a pass alone has taken, or finds there, what it has pushed for session 1
alone : (items sent got : List (Came ℕ)) → Comes items (hand 1 2 sent true got ∷ []) → what_of 1 (got ++ items) ≡ what_of 1 sent
alone items sent got h = learns 0 (hand 1 2 sent true got) refl items (hand 1 2 sent true got ∷ []) h refl 1 (omega arith, omega arith)

-- the first of some numbers
abbrev first_of : List ℕ → ℕ
first_of [] = 0
first_of (n ∷ ns) = n

pub returns-clause-twice : goal.returns-clause-twice
returns-clause-twice c = λ h. let e = ap length (alone (number_of 1 3 ∷ number_of 1 3 ∷ []) (number_of 1 3 ∷ []) [] h) in omega (arith, e)

pub returns-clause-taken_twice : goal.returns-clause-taken_twice
returns-clause-taken_twice c = λ h. let e = ap length (alone (number_of 1 3 ∷ []) (number_of 1 3 ∷ []) (number_of 1 3 ∷ []) h) in omega (arith, e)

pub returns-clause-lost : goal.returns-clause-lost
returns-clause-lost c = λ h. let e = ap length (alone [] (number_of 1 3 ∷ []) [] h) in omega (arith, e)

pub returns-clause-misnamed : goal.returns-clause-misnamed
returns-clause-misnamed c = λ h. let e = ap length (alone (number_of 2 3 ∷ []) (number_of 1 3 ∷ []) [] h) in omega (arith, e)

pub returns-clause-overtaken : goal.returns-clause-overtaken
returns-clause-overtaken c = λ h. let e = ap first_of (alone (number_of 1 4 ∷ number_of 1 3 ∷ []) (number_of 1 3 ∷ number_of 1 4 ∷ []) [] h) in omega (arith, e)

pub returns-clause-two_senders : goal.returns-clause-two_senders
returns-clause-two_senders c = λ h. let first = ((h.fits 0 (hand 1 2 [] true []) refl).owns 2 (omega arith, omega arith)).0 in let second = ((h.fits 1 (hand 2 1 [] false []) refl).owns 2 (omega arith, omega arith)).0 in omega (arith, first, second)

pub returns-clause-two_takers : goal.returns-clause-two_takers
returns-clause-two_takers c = λ h. let first = ((h.fits 0 (hand 1 2 [] true []) refl).has refl).0 in let second = ((h.fits 1 (hand 3 1 [] true []) refl).has refl).0 in omega (arith, first, second)

pub returns-clause-foreign : goal.returns-clause-foreign
returns-clause-foreign c = λ h. let e = ap length ((h.fits 0 (hand 1 2 (number_of 3 3 ∷ []) true []) refl).others 3 (λ m. let high = m.1 in omega (arith, high))) in omega (arith, e)
