use Rattle.pgn_hub.proofs.WithinLaws.{calls-keep_within}
use Rattle.pgn_laws.proofs.hub.within.Goals as goal

pub returns : goal.returns
returns c = calls-keep_within
