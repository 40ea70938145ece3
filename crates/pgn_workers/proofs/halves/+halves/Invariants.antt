use Rattle.std.proofs.Common.{length, ◌+◌, ◌*◌}
use Rattle.pgn_workers.proofs.halves.+halves.Given as goal

abbrev pub decreases-run : goal.decreases-run
decreases-run g l = 6 * length l.workers.now + 2

abbrev pub decreases-run_apart : goal.decreases-run_apart
decreases-run_apart g l = 6 * length l.workers.now + 1

abbrev pub decreases-join_halves : goal.decreases-join_halves
decreases-join_halves g l = 6 * (length l.left.now + length l.right.now)

abbrev pub decreases-join_halves-join_mut+arg2 : goal.decreases-join_halves-join_mut+arg2
decreases-join_halves-join_mut+arg2 g l = 6 * length l.left.now + 4

abbrev pub decreases-join_halves-join_mut+arg3 : goal.decreases-join_halves-join_mut+arg3
decreases-join_halves-join_mut+arg3 g l = 6 * length l.right.now + 4

abbrev pub decreases-run_met : goal.decreases-run_met
decreases-run_met g l = 6 * length l.workers.now + 3
