use Rattle.std.proofs.Common.{arith}
use Rattle.pgn_text.proofs.PutsLaws.{Toward-all, Toward-none, Toward-section, traces_lines-end}
use Rattle.pgn_text.proofs.out.Out.sections.Goals as goal

pub returns : goal.returns
returns g c = Toward-all c.loop-i.invariant (traces_lines-end c.args.sections.now c.args.traces.now c.loop-i.i (omega arith))

pub loop-i-init : goal.loop-i-init
loop-i-init g c = Toward-none g.K.Sink.held g.K.Sink.faults c.args.sink.now c.args.self.now _

pub loop-i-preserved : goal.loop-i-preserved
loop-i-preserved g c =
    Toward-section c.args.sections.now c.args.traces.now c.loop-i.i c.index-sections-i.result c.index-traces-i.result c.loop-i.invariant c.index-sections-i.is c.index-traces-i.is (omega arith) (omega arith) c.section.ensures
