use Rattle.pgn_frames.specs.Reading.{AreEnded}
use Rattle.pgn_frames.proofs.reading.tell_end.Given as goal

-- the first seats were told
abbrev pub invariant-loop-k : goal.invariant-loop-k
invariant-loop-k g l = AreEnded l.k l.fn.seats.inboxes.now l.fn.callers l.callers
