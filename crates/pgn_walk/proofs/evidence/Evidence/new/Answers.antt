use Rattle.std.proofs.Common.{[]}
use Rattle.pgn_walk.proofs.evidence.Evidence.new.Goals as goal

pub returns : goal.returns
returns c = record {
  flags = c.in_ok-raise_in.ensures [] c.new-raised.ensures;
  marks = c.in_ok-stand_in.ensures [] c.new-stood.ensures;
}
