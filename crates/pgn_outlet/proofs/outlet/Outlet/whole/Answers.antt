use Rattle.pgn_outlet.proofs.KeptLaws.{joins}
use Rattle.pgn_outlet.proofs.outlet.Outlet.whole.Goals as goal

pub absorb-requires-clause-rule : goal.absorb-requires-clause-rule
absorb-requires-clause-rule g c = joins _ _ _ _ c.requires.neighbours
