use Rattle.std.proofs.Common.{◌≡◌, ◌+◌, ◌<◌, ◌≤◌, length}
use Rattle.pgn_base.specs.declared.limits.TheConstants.{INPUT_BYTES_MAX}
use Rattle.pgn_language.specs.Lines.{lines_of}
use Rattle.pgn_scenario.specs.Steps.{steps}
use Rattle.pgn_scenario.proofs.scenario_reading.read_lines.Given as goal

abbrev pub invariant-loop-rest : goal.invariant-loop-rest
invariant-loop-rest l = record {
  same : steps l.so_far (lines_of l.rest) ≡ steps l.fn.so_far (lines_of l.fn.bytes);
  within : 0 < length l.rest → l.so_far.at + length l.rest ≤ INPUT_BYTES_MAX;
}

abbrev pub decreases-loop-rest : goal.decreases-loop-rest
decreases-loop-rest l = length l.rest
