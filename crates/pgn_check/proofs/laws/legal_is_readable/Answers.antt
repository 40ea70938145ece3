use Rattle.pgn_check.proofs.LegalLaws.{legal-is_readable}
use Rattle.pgn_check.proofs.laws.legal_is_readable.Goals as goal

pub returns : goal.returns
returns c = legal-is_readable
