use Rattle.std.proofs.Common.{ℕ, List, [], ◌∷◌, length, ap, arith}
use Rattle.pgn_model.specs.declared.item.Item.{Item}
use Rattle.pgn_model.specs.declared.item.Item.TheVariants.{Line}
use Rattle.pgn_part_examples.proofs.live.refused.Goals as goal

-- the line of the first item
abbrev line_in : List Item → ℕ
line_in [] = 0
line_in (Line n ∷ items) = n
line_in (item ∷ items) = 0

pub returns-clause-twice : goal.returns-clause-twice
returns-clause-twice c = λ h. let e = ap length (h 1) in omega (arith, e)

pub returns-clause-lost : goal.returns-clause-lost
returns-clause-lost c = λ h. let e = ap length (h 1) in omega (arith, e)

pub returns-clause-misnamed : goal.returns-clause-misnamed
returns-clause-misnamed c = λ h. let e = ap length (h 1) in omega (arith, e)

pub returns-clause-foreign : goal.returns-clause-foreign
returns-clause-foreign c = λ h. let e = ap length (h 300) in omega (arith, e)

pub returns-clause-not_first : goal.returns-clause-not_first
returns-clause-not_first c = λ h. let e = ap line_in (h 1).split in omega (arith, e)

pub returns-clause-overtaken : goal.returns-clause-overtaken
returns-clause-overtaken c = λ h. let e = ap line_in (h 1) in omega (arith, e)
