use Rattle.std.proofs.Common.{◌≡◌}
use Rattle.std.specs.Io.KnownBytes.{Keeps}
use Rattle.pgn_streams.proofs.adapters.OutputSink.write.Given as goal

-- what was written stays while writes are interrupted, and no fault is counted
abbrev pub invariant-loop : goal.invariant-loop
invariant-loop g l = record {
  kept : Keeps (g.W.Write.contents l.fn.self.writer) (g.W.Write.contents l.self.writer);
  same : l.self.faults ≡ l.fn.self.faults;
}
