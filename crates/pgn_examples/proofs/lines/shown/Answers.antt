use Rattle.std.proofs.Common.{refl, arith}
use Rattle.std.specs.Fmt.{digits}
use Rattle.pgn_examples.proofs.lines.shown.Goals as goal

pub returns-clause-publish : goal.returns-clause-publish
unfolding digits
returns-clause-publish c = ((omega arith, omega arith), refl)

pub returns-clause-aborted : goal.returns-clause-aborted
unfolding digits
returns-clause-aborted c = (((omega arith, omega arith), (omega arith, omega arith), omega arith, omega arith), refl)

pub returns-clause-sent : goal.returns-clause-sent
returns-clause-sent c = refl

pub returns-clause-received : goal.returns-clause-received
unfolding digits
returns-clause-received c = refl

pub returns-clause-measured : goal.returns-clause-measured
unfolding digits
returns-clause-measured c = (((omega arith, omega arith), (omega arith, omega arith), tt), refl)

pub returns-clause-pages : goal.returns-clause-pages
unfolding digits
returns-clause-pages c = ((omega arith, omega arith), refl)

pub returns-clause-rows : goal.returns-clause-rows
unfolding digits
returns-clause-rows c = (omega arith, refl)

pub returns-clause-end : goal.returns-clause-end
unfolding digits
returns-clause-end c = ((omega arith, omega arith), refl)
