use Rattle.pgn_outlet.proofs.KeptLaws.{pushes}
use Rattle.pgn_outlet.proofs.outlet.Outlet.push.Goals as goal

pub push_as-requires-clause-rule : goal.push_as-requires-clause-rule
push_as-requires-clause-rule g c = λ n. pushes n _ _ _ c.requires.may
