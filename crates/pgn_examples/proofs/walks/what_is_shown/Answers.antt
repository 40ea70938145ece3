use Rattle.std.proofs.Common.{arith}
use Rattle.pgn_examples.proofs.walks.what_is_shown.Goals as goal

pub returns-clause-of_a_run : goal.returns-clause-of_a_run
returns-clause-of_a_run c = λ scenario settings journal traces h. h.shown

pub returns-clause-base : goal.returns-clause-base
returns-clause-base c = λ h. let e = h.0 in absurd (omega (arith, e))

pub returns-clause-point : goal.returns-clause-point
returns-clause-point c = λ h. let e = h.1 in absurd (omega (arith, e))

pub returns-clause-published : goal.returns-clause-published
returns-clause-published c = λ h. let e = h in absurd (omega (arith, e))

pub returns-clause-full : goal.returns-clause-full
returns-clause-full c = λ h. let e = h.0 in absurd (omega (arith, e))

pub returns-clause-floor_of_full : goal.returns-clause-floor_of_full
returns-clause-floor_of_full c = λ h. let e = h.1 in absurd (omega (arith, e))

pub returns-clause-used : goal.returns-clause-used
returns-clause-used c = λ h. let e = h.0 in absurd (omega (arith, e))

pub returns-clause-floor_of_used : goal.returns-clause-floor_of_used
returns-clause-floor_of_used c = λ h. let e = h.1 in absurd (omega (arith, e))

pub returns-clause-raised : goal.returns-clause-raised
returns-clause-raised c = λ h. let e = h in absurd (omega (arith, e))

pub returns-clause-found : goal.returns-clause-found
returns-clause-found c = λ h. let e = h in absurd (omega (arith, e))

pub returns-clause-read_from : goal.returns-clause-read_from
returns-clause-read_from c = λ h. let e = h.0 in absurd (omega (arith, e))

pub returns-clause-read_to : goal.returns-clause-read_to
returns-clause-read_to c = λ h. let e = h.1 in absurd (omega (arith, e))
