use Rattle.std.proofs.Common.{rules}
use Rattle.pgn_outlet.proofs.KeptLaws.{begins, roles}
use Rattle.pgn_outlet.proofs.outlet.Outlet.open.Goals as goal

pub with_rule-requires : goal.with_rule-requires
with_rule-requires g c = begins

pub another-other-requires-clause-rule : goal.another-other-requires-clause-rule
another-other-requires-clause-rule g c = roles _ _ (search rules)
