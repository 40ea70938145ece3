use Rattle.pgn_outlet.specs.Passes.{knows}
use Rattle.pgn_frames.proofs.WriteLaws.{Wrote-none, Wrote-trans}
use Rattle.pgn_frames.proofs.writing.write_until.Goals as goal

pub loop-preserved-then-write_next : goal.loop-preserved-then-write_next
loop-preserved-then-write_next g c = record {
  own = c.write_next.ensures.own;
  takes = c.write_next.ensures.takes;
  wrote = Wrote-trans g.K.Sink.held g.K.Sink.faults (knows c.args.pass.now) (knows c.loop.pass) (knows c.write_next.new.pass) c.args.sink.now c.loop.sink c.write_next.new.sink c.args.out.now c.loop.out c.write_next.new.out c.loop.invariant.wrote c.write_next.ensures.wrote;
}

pub loop-preserved : goal.loop-preserved
loop-preserved g c = record {
  own = c.write_next.ensures.own;
  takes = c.write_next.ensures.takes;
  wrote = Wrote-trans g.K.Sink.held g.K.Sink.faults (knows c.args.pass.now) (knows c.loop.pass) (knows c.write_next.new.pass) c.args.sink.now c.loop.sink c.write_next.new.sink c.args.out.now c.loop.out c.write_next.new.out c.loop.invariant.wrote c.write_next.ensures.wrote;
}

pub returns-then-load-ne0-clause-wrote : goal.returns-then-load-ne0-clause-wrote
returns-then-load-ne0-clause-wrote g c =
    Wrote-trans g.K.Sink.held g.K.Sink.faults (knows c.args.pass.now) (knows c.loop.pass) (knows c.write_next.new.pass) c.args.sink.now c.loop.sink c.write_next.new.sink c.args.out.now c.loop.out c.write_next.new.out c.loop.invariant.wrote c.write_next.ensures.wrote

pub loop-init : goal.loop-init
loop-init g c = record {
  own = c.requires.own;
  takes = c.requires.takes;
  wrote = Wrote-none g.K.Sink.held g.K.Sink.faults (knows c.args.pass.now) c.args.sink.now c.args.out.now;
}

pub returns-then-load-ne0-clause-own : goal.returns-then-load-ne0-clause-own
returns-then-load-ne0-clause-own g c = c.write_next.ensures.own

pub returns-then-load-ne0-clause-takes : goal.returns-then-load-ne0-clause-takes
returns-then-load-ne0-clause-takes g c = c.write_next.ensures.takes
