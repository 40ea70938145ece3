use Rattle.std.proofs.Common.{arith}
use Rattle.pgn_model.specs.Text.{channel_line}
use Rattle.pgn_text.proofs.PutsLaws.{Toward-all, Toward-marked, Toward-none, marked-end}
use Rattle.pgn_text.proofs.out.Out.channel_lines.Goals as goal

pub loop-name-init : goal.loop-name-init
loop-name-init g c = Toward-none g.K.Sink.held g.K.Sink.faults c.args.sink.now c.args.self.now _

pub loop-name-preserved : goal.loop-name-preserved
loop-name-preserved g c = Toward-marked c.args.mark channel_line c.args.names.now c.loop-name.name-index c.name-item.result c.loop-name.invariant c.name-item.is (omega arith) c.channel_line.ensures

pub returns : goal.returns
returns g c = Toward-all c.loop-name.invariant (marked-end c.args.mark channel_line c.args.names.now c.loop-name.name-index (omega arith))
