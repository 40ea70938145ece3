use Rattle.pgn_reading.specs.Shown.{raised_in}
use Rattle.pgn_walk.proofs.evidence.Evidence.was_raised.Goals as goal

pub returns : goal.returns
returns c = λ sections traces is. rw c.get.ensures.value at (c.has.ensures (raised_in sections traces) is.flags)
