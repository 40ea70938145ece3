use Rattle.std.proofs.Common.{◌≡◌, true}
use Rattle.pgn_outlet.specs.Passes.{IsPassOf, knows}
use Rattle.pgn_frames.specs.Writing.{Wrote}
use Rattle.pgn_frames.proofs.writing.write_rest.Given as goal

abbrev pub invariant-loop : goal.invariant-loop
invariant-loop g l = record {
  own : IsPassOf l.fn.outbox l.pass;
  takes : (knows l.pass).takes ≡ true;
  wrote : Wrote g.K.Sink.held g.K.Sink.faults (knows l.fn.pass) (knows l.pass) l.fn.sink l.fn.out l.sink l.out;
}
