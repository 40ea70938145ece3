use Rattle.pgn_laws.proofs.TogetherLaws.{cuts_change_no_sign, frames_read_back}
use Rattle.pgn_laws.proofs.frames.together.Goals as goal

pub returns-clause-read_back : goal.returns-clause-read_back
returns-clause-read_back c = frames_read_back

pub returns-clause-cuts : goal.returns-clause-cuts
returns-clause-cuts c = cuts_change_no_sign
