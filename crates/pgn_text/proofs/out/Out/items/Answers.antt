use Rattle.std.proofs.Common.{arith}
use Rattle.pgn_model.specs.declared.item.Item.{Item}
use Rattle.pgn_model.specs.Text.{item_lines}
use Rattle.pgn_text.specs.Rendering.{marked}
use Rattle.pgn_text.proofs.PutsLaws.{Toward-all, Toward-lines, Toward-none, flat-end}
use Rattle.pgn_text.proofs.out.Out.items.Goals as goal

pub loop-item-init : goal.loop-item-init
loop-item-init g c = record { puts = Toward-none g.K.Sink.held g.K.Sink.faults c.args.sink.now c.args.self.now _; passed = c.requires }

pub loop-item-preserved : goal.loop-item-preserved
loop-item-preserved g c = record {
  puts = Toward-lines (λ (item : Item). marked c.args.mark (item_lines c.args.lines.now item)) c.args.items.now c.loop-item.item-index c.item-item.result c.loop-item.invariant.puts c.item-item.is (omega arith) c.item.ensures.puts;
  passed = c.item.ensures.passed;
}

pub returns-clause-puts : goal.returns-clause-puts
returns-clause-puts g c = Toward-all c.loop-item.invariant.puts (flat-end (λ (item : Item). marked c.args.mark (item_lines c.args.lines.now item)) c.args.items.now c.loop-item.item-index (omega arith))

pub returns-clause-passed : goal.returns-clause-passed
returns-clause-passed g c = c.loop-item.invariant.passed
