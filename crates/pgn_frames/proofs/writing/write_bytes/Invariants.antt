use Rattle.std.proofs.Common.{length}
use Rattle.pgn_frames.proofs.WriteLaws.{GaveBut}
use Rattle.pgn_frames.proofs.writing.write_bytes.Given as goal

abbrev pub invariant-loop-rest : goal.invariant-loop-rest
invariant-loop-rest g l = GaveBut g.K.Sink.held g.K.Sink.faults l.seat l.fn.bytes l.rest l.fn.sink l.fn.out l.sink l.out

abbrev pub decreases-loop-rest : goal.decreases-loop-rest
decreases-loop-rest g l = length l.rest
