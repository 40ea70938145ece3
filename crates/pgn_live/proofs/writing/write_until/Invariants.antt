use Rattle.std.proofs.Common.{◌≡◌, true}
use Rattle.pgn_outlet.specs.Passes.{IsPassOf, knows}
use Rattle.pgn_live.specs.Lives.{HasWritten, StandIn}
use Rattle.pgn_live.proofs.writing.write_until.Given as goal

abbrev pub invariant-loop : goal.invariant-loop
invariant-loop g l = record {
  own : IsPassOf l.fn.live.outlet.now l.writer.pass;
  takes : (knows l.writer.pass).takes ≡ true;
  stand : StandIn l.fn.live.sections.now l.writer.cursors.items;
  wrote : HasWritten g.K.Sink.held g.K.Sink.faults l.fn.live.sections.now l.fn.writer l.writer l.fn.sink l.sink;
}
