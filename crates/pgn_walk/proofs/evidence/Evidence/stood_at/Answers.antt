use Rattle.pgn_walk.specs.Evidence.{stood_in}
use Rattle.pgn_walk.proofs.EvidenceLaws.{stood_shows}
use Rattle.pgn_walk.proofs.evidence.Evidence.stood_at.Goals as goal

pub returns : goal.returns
returns c = λ sections traces is. stood_shows traces c.args.session c.args.mark c.has.result (rw (c.get.ensures.value, c.get-2.ensures.value) at (c.has.ensures (stood_in traces) is.marks))
