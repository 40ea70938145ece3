use Rattle.std.proofs.Common.{refl, arith}
use Rattle.pgn_part_examples.proofs.hub.look.Goals as goal

pub returns-clause-none_after_its_own : goal.returns-clause-none_after_its_own
returns-clause-none_after_its_own c h = h.not_raised 0 (0, 4) (omega arith) refl

pub returns-clause-none_after_found : goal.returns-clause-none_after_found
returns-clause-none_after_found c h = h.not_found 0 (0, 4) (omega arith) refl

pub returns-clause-less_than_its_own : goal.returns-clause-less_than_its_own
returns-clause-less_than_its_own c h = omega (arith, h.after_raised 0 (0, 4) (omega arith) refl)

pub returns-clause-less_than_found : goal.returns-clause-less_than_found
returns-clause-less_than_found c h = omega (arith, h.after_found 0 (0, 4) (omega arith) refl)
