use Rattle.pgn_part_examples.proofs.LiveLaws.{mixed}
use Rattle.pgn_part_examples.proofs.live.met.Goals as goal

pub returns : goal.returns
returns c = record { whole = mixed }
