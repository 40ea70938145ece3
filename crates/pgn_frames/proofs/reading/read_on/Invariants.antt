use Rattle.std.proofs.Common.{◌≡◌, ℕ, List, Option, length}
use Rattle.pgn_frames.specs.Reading.{CallsOn, EachSeat, Reads}
use Rattle.pgn_frames.proofs.reading.read_on.Given as goal

-- the first frames were read
abbrev pub invariant-loop : goal.invariant-loop
invariant-loop g l = record {
  size : length l.callers ≡ length l.fn.callers;
  on : EachSeat CallsOn l.fn.seats.inboxes.now l.callers;
  reads : (most : ℕ) (bytes : Option (List ℕ)) → Reads most 0 bytes (g.S.Source.left l.fn.source) l.fn.seats.inboxes.now l.fn.callers
      → Reads most l.at bytes (g.S.Source.left l.source) l.fn.seats.inboxes.now l.callers;
  same : g.S.Source.faults l.source ≡ g.S.Source.faults l.fn.source;
}
