use Rattle.pgn_outlet.specs.Passes.{knows}
use Rattle.pgn_live.proofs.WriteLaws.{Wrote-none, Wrote-trans}
use Rattle.pgn_live.proofs.writing.write_rest.Goals as goal

pub loop-preserved : goal.loop-preserved
loop-preserved g c = record {
  own = c.write_next.ensures.own;
  takes = c.write_next.ensures.takes;
  stand = c.write_next.ensures.stand;
  wrote = Wrote-trans g.K.Sink.held g.K.Sink.faults c.args.live.now.sections.now (knows c.args.writer.now.pass) (knows c.loop.writer.pass) (knows c.write_next.new.writer.pass) c.args.sink.now c.loop.sink c.write_next.new.sink c.args.writer.now.out c.loop.writer.out c.write_next.new.writer.out c.loop.invariant.wrote c.write_next.ensures.wrote;
}

pub loop-init : goal.loop-init
loop-init g c = record {
  own = c.requires.own;
  takes = c.requires.takes;
  stand = c.requires.stand;
  wrote = Wrote-none g.K.Sink.held g.K.Sink.faults c.args.live.now.sections.now (knows c.args.writer.now.pass) c.args.sink.now c.args.writer.now.out;
}

pub returns-then-not-write_next-clause-own : goal.returns-then-not-write_next-clause-own
returns-then-not-write_next-clause-own g c = c.write_next.ensures.own

pub returns-then-not-write_next-clause-wrote : goal.returns-then-not-write_next-clause-wrote
returns-then-not-write_next-clause-wrote g c =
    Wrote-trans g.K.Sink.held g.K.Sink.faults c.args.live.now.sections.now (knows c.args.writer.now.pass) (knows c.loop.writer.pass) (knows c.write_next.new.writer.pass) c.args.sink.now c.loop.sink c.write_next.new.sink c.args.writer.now.out c.loop.writer.out c.write_next.new.writer.out c.loop.invariant.wrote c.write_next.ensures.wrote
