use Rattle.pgn_outlet.specs.Passes.{knows}
use Rattle.pgn_frames.proofs.WriteLaws.{Wrote-none, Wrote-trans}
use Rattle.pgn_frames.proofs.writing.write_rest.Goals as goal

pub loop-preserved : goal.loop-preserved
loop-preserved g c = record {
  own = c.write_next.ensures.own;
  takes = c.write_next.ensures.takes;
  wrote = Wrote-trans g.K.Sink.held g.K.Sink.faults (knows c.args.pass.now) (knows c.loop.pass) (knows c.write_next.new.pass) c.args.sink.now c.loop.sink c.write_next.new.sink c.args.out.now c.loop.out c.write_next.new.out c.loop.invariant.wrote c.write_next.ensures.wrote;
}

pub returns-then-not-write_next-clause-wrote : goal.returns-then-not-write_next-clause-wrote
returns-then-not-write_next-clause-wrote g c =
    Wrote-trans g.K.Sink.held g.K.Sink.faults (knows c.args.pass.now) (knows c.loop.pass) (knows c.write_next.new.pass) c.args.sink.now c.loop.sink c.write_next.new.sink c.args.out.now c.loop.out c.write_next.new.out c.loop.invariant.wrote c.write_next.ensures.wrote

pub loop-init : goal.loop-init
loop-init g c = record {
  own = c.requires.own;
  takes = c.requires.takes;
  wrote = Wrote-none g.K.Sink.held g.K.Sink.faults (knows c.args.pass.now) c.args.sink.now c.args.out.now;
}

pub returns-then-not-write_next-clause-sent : goal.returns-then-not-write_next-clause-sent
returns-then-not-write_next-clause-sent g c = c.write_next.ensures.sent c.if-not-write_next.true
