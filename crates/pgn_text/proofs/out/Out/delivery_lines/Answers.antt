use Rattle.std.proofs.Common.{arith}
use Rattle.pgn_model.specs.Text.{delivery_line}
use Rattle.pgn_text.proofs.PutsLaws.{Toward-all, Toward-marked, Toward-none, marked-end}
use Rattle.pgn_text.proofs.out.Out.delivery_lines.Goals as goal

pub loop-delivery-init : goal.loop-delivery-init
loop-delivery-init g c = Toward-none g.K.Sink.held g.K.Sink.faults c.args.sink.now c.args.self.now _

pub loop-delivery-preserved : goal.loop-delivery-preserved
loop-delivery-preserved g c = Toward-marked c.args.mark delivery_line c.args.got.now c.loop-delivery.delivery-index c.delivery-item.result c.loop-delivery.invariant c.delivery-item.is (omega arith) c.delivery_line.ensures

pub returns : goal.returns
returns g c = Toward-all c.loop-delivery.invariant (marked-end c.args.mark delivery_line c.args.got.now c.loop-delivery.delivery-index (omega arith))
