use Rattle.pgn_outlet.proofs.KeptLaws.{takes_over}
use Rattle.pgn_outlet.proofs.outlet.Outlet.close.Goals as goal

pub absorb-requires-clause-rule : goal.absorb-requires-clause-rule
absorb-requires-clause-rule g c = takes_over _ _ _ _ c.requires.takes
