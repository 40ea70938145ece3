use Rattle.pgn_check.proofs.UnblamedLaws.{legal-is_unblamed}
use Rattle.pgn_check.proofs.laws.legal_is_unblamed.Goals as goal

pub returns : goal.returns
returns c = legal-is_unblamed
