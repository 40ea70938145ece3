use Rattle.std.proofs.Common.{length, take, ◌-◌, ◌≡◌, ◌≤◌}
use Rattle.std.specs.Io.KnownBytes.{Consumes}
use Rattle.pgn_queries.proofs.full_read.read_full.Given as goal

-- the front of the buffer is what the source gave
abbrev pub invariant-loop-filled : goal.invariant-loop-filled
invariant-loop-filled g l = record {
  consumed : Consumes (g.S.Source.left l.fn.source) (g.S.Source.left l.source) (take l.filled l.buf);
  within : l.filled ≤ length l.buf;
  size : length l.buf ≡ length l.fn.buf;
  same : g.S.Source.faults l.source ≡ g.S.Source.faults l.fn.source;
}

abbrev pub decreases-loop-filled : goal.decreases-loop-filled
decreases-loop-filled g l = length l.fn.buf - l.filled
