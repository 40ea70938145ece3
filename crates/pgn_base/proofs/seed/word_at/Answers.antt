use Rattle.pgn_base.specs.Hashes.{word_at}
use Rattle.pgn_base.proofs.seed.word_at.Goals as goal

pub returns : goal.returns
unfolding word_at
returns c = c.from_le_bytes.ensures
