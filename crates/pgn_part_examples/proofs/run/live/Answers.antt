use Rattle.std.proofs.Common.{◌≡◌, length, ap, refl, arith}
use Rattle.std.specs.Fmt.{digits}
use Rattle.pgn_part_examples.proofs.run.live.Goals as goal

pub returns-clause-end : goal.returns-clause-end
unfolding digits
returns-clause-end c = refl

pub returns-clause-whole : goal.returns-clause-whole
unfolding digits
returns-clause-whole c = refl

-- the two texts have so many bytes
pub returns-clause-no_mark : goal.returns-clause-no_mark
unfolding digits
returns-clause-no_mark c = λ same. let size : 86 ≡ 79 = ap length same in absurd (omega (arith, size))

pub returns-clause-lines_left_out : goal.returns-clause-lines_left_out
unfolding digits
returns-clause-lines_left_out c = λ same. let size : 118 ≡ 79 = ap length same in absurd (omega (arith, size))
