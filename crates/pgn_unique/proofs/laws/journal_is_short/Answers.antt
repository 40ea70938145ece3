use Rattle.pgn_unique.proofs.ShortLaws.{journal-is_short}
use Rattle.pgn_unique.proofs.laws.journal_is_short.Goals as goal

pub returns : goal.returns
returns c = journal-is_short
