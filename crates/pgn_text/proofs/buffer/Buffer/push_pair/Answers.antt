use Rattle.pgn_text.proofs.DigitsLaws.{PAIRS_at}
use Rattle.pgn_text.proofs.buffer.Buffer.push_pair.Goals as goal

pub returns : goal.returns
returns c = let pair = PAIRS_at c.args.number c.requires.small in rw (pair.0, pair.1) at c.push.ensures
