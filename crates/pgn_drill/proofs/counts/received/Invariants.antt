use Rattle.std.proofs.Common.{◌≡◌, ◌+◌, drop}
use Rattle.pgn_model.specs.Text.{received_in}
use Rattle.pgn_drill.proofs.counts.received.Given as goal

abbrev pub invariant-loop-trace : goal.invariant-loop-trace
invariant-loop-trace l = l.count + received_in (drop l.trace-index l.traces) ≡ received_in l.traces
