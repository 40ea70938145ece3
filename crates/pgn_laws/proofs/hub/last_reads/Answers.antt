use Rattle.pgn_hub.proofs.GatheredLaws.{last-reads}
use Rattle.pgn_laws.proofs.hub.last_reads.Goals as goal

pub returns : goal.returns
returns c = last-reads
