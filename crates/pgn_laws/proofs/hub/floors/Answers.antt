use Rattle.pgn_hub.proofs.CallLaws.{holders-are_named}
use Rattle.pgn_hub.proofs.FloorLaws.{own-floors}
use Rattle.pgn_laws.proofs.hub.floors.Goals as goal

pub returns-clause-named : goal.returns-clause-named
returns-clause-named c = holders-are_named

pub returns-clause-own : goal.returns-clause-own
returns-clause-own c = own-floors
