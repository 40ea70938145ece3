use Rattle.std.proofs.Common.{◌≡◌}
use Rattle.std.specs.Io.KnownBytes.{Keeps}
use Rattle.pgn_streams.proofs.adapters.InputSource.read.Given as goal

-- what is left stays while reads are interrupted, and no fault is counted
abbrev pub invariant-loop : goal.invariant-loop
invariant-loop g l = record {
  kept : Keeps (g.R.Read.remaining l.fn.self.reader) (g.R.Read.remaining l.self.reader);
  same : l.self.faults ≡ l.fn.self.faults;
}
