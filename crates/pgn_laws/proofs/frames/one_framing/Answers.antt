use Rattle.pgn_frames.proofs.FrameLaws.{each_has_frames, one_framing}
use Rattle.pgn_laws.proofs.frames.one_framing.Goals as goal

pub returns-clause-some : goal.returns-clause-some
returns-clause-some c = each_has_frames

pub returns-clause-one : goal.returns-clause-one
returns-clause-one c = one_framing
