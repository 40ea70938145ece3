use Rattle.pgn_reading.proofs.MergedLaws.{legal-shows_journal}
use Rattle.pgn_laws.proofs.merge.legal_shows_journal.Goals as goal

pub returns : goal.returns
returns c = legal-shows_journal
