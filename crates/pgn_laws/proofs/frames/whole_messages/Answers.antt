use Rattle.pgn_frames.proofs.MoreLaws.{more_may_follow, query_stays_whole}
use Rattle.pgn_laws.proofs.frames.whole_messages.Goals as goal

pub returns-clause-query : goal.returns-clause-query
returns-clause-query c = query_stays_whole

pub returns-clause-parting : goal.returns-clause-parting
returns-clause-parting c = more_may_follow
