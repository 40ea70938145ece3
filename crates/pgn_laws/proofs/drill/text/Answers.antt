use Rattle.pgn_drill.proofs.ReadLaws.{drill-reads}
use Rattle.pgn_laws.proofs.drill.text.Goals as goal

pub returns : goal.returns
returns c = drill-reads
