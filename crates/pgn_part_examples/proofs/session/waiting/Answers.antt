use Rattle.std.proofs.Common.{arith, inl, inr}
use Rattle.pgn_part_examples.proofs.SessionLemmas.{at-zero, one-missing}
use Rattle.pgn_part_examples.proofs.session.waiting.Goals as goal

pub returns-clause-at_another_flag : goal.returns-clause-at_another_flag
returns-clause-at_another_flag c w = at-zero w.0

pub returns-clause-one_flag_missing : goal.returns-clause-one_flag_missing
returns-clause-one_flag_missing c (inl all) = one-missing all
returns-clause-one_flag_missing c (inr spent) = omega (arith, spent)
