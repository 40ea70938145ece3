use Rattle.std.proofs.Common.{length, ◌-◌}
use Rattle.pgn_run.proofs.PartingLaws.{IsBehind}
use Rattle.pgn_run.proofs.parting.output_line.Given as goal

abbrev pub invariant-loop-at : goal.invariant-loop-at
invariant-loop-at l = IsBehind l.input l.at

abbrev pub decreases-loop-at : goal.decreases-loop-at
decreases-loop-at l = length l.input - l.at
