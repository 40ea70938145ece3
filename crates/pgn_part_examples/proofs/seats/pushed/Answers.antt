use Rattle.std.proofs.Common.{◌≡◌, [], ◌∷◌, refl, arith}
use Rattle.pgn_part_examples.specs.Seats.{for_seat, told}
use Rattle.pgn_seats.proofs.SayLaws.{pushed-one}
use Rattle.pgn_part_examples.proofs.seats.pushed.Goals as goal

pub returns-clause-met : goal.returns-clause-met
returns-clause-met c = λ saying. pushed-one 1 saying (told []) (told (for_seat 1 saying ∷ [])) refl

pub returns-clause-misnamed : goal.returns-clause-misnamed
returns-clause-misnamed c = λ saying h. let both : saying ∷ [] ≡ [] = h.others 2 (λ e. omega (arith, e)) in let no : ⊥ = cc in no

pub returns-clause-lost : goal.returns-clause-lost
returns-clause-lost c = λ saying h. let both : [] ≡ saying ∷ [] = h.others 2 (λ e. omega (arith, e)) in let no : ⊥ = cc in no
