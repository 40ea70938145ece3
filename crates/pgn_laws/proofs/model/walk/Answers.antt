use Rattle.pgn_model.proofs.WalkLaws.{Stands-push}
use Rattle.pgn_laws.proofs.model.walk.Goals as goal

pub returns-clause-pushes : goal.returns-clause-pushes
returns-clause-pushes c = Stands-push
