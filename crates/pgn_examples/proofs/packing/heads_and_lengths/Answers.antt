use Rattle.std.proofs.Common.{arith}
use Rattle.pgn_examples.proofs.packing.heads_and_lengths.Goals as goal

pub returns-clause-database : goal.returns-clause-database
returns-clause-database c = λ h. let e = h.db_fits in absurd (omega (arith, e))

pub returns-clause-number : goal.returns-clause-number
returns-clause-number c = λ h. let e = h.xid_fits in absurd (omega (arith, e))

pub returns-clause-number_of_two : goal.returns-clause-number_of_two
returns-clause-number_of_two c = λ h. let e = h.xid_fits in absurd (omega (arith, e))

pub returns-clause-process : goal.returns-clause-process
returns-clause-process c = λ h. let e = h.pid_fits in absurd (omega (arith, e))

pub returns-clause-length_too_short : goal.returns-clause-length_too_short
returns-clause-length_too_short c = λ h. let e = h.least in absurd (omega (arith, e))

pub returns-clause-length_too_short_of_two : goal.returns-clause-length_too_short_of_two
returns-clause-length_too_short_of_two c = λ h. let e = h.least in absurd (omega (arith, e))

pub returns-clause-length_not_aligned : goal.returns-clause-length_not_aligned
returns-clause-length_not_aligned c = λ h. let e = h.whole in absurd (omega (arith, e))

pub returns-clause-length_not_aligned_of_two : goal.returns-clause-length_not_aligned_of_two
returns-clause-length_not_aligned_of_two c = λ h. let e = h.whole in absurd (omega (arith, e))

pub returns-clause-length_too_long : goal.returns-clause-length_too_long
returns-clause-length_too_long c = λ h. let e = h.fits in absurd (omega (arith, e))

pub returns-clause-length_too_long_of_two : goal.returns-clause-length_too_long_of_two
returns-clause-length_too_long_of_two c = λ h. let e = h.fits in absurd (omega (arith, e))
