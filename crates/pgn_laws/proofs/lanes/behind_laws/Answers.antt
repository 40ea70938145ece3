use Rattle.pgn_lanes.proofs.WakeLaws.{length-plain_behind, answer_of_each}
use Rattle.pgn_laws.proofs.lanes.behind_laws.Goals as goal

pub returns-clause-length : goal.returns-clause-length
returns-clause-length c = length-plain_behind

pub returns-clause-each : goal.returns-clause-each
returns-clause-each c = answer_of_each
