use Rattle.std.proofs.Common.{length}
use Rattle.pgn_workers.proofs.rounds.+take_round.Given as goal

abbrev pub decreases-take_round : goal.decreases-take_round
decreases-take_round g l = length l.workers.now
