use Rattle.std.proofs.Common.{arith}
use Rattle.pgn_text.proofs.PutsLaws.{Toward-more, Toward-same}
use Rattle.pgn_text.proofs.DoublingLaws.{pending-other, pending-quote}
use Rattle.pgn_text.proofs.out.Out.runs.Goals as goal

pub loop-i-preserved-then-text-i : goal.loop-i-preserved-then-text-i
loop-i-preserved-then-text-i g c = record {
  puts = Toward-same c.loop-i.invariant.puts (pending-other c.args.quote c.args.text.now c.loop-i.start c.loop-i.i c.loop-i.invariant.begun (omega arith) c.if-text-i.true);
  begun = omega arith;
}

pub loop-i-preserved : goal.loop-i-preserved
loop-i-preserved g c = record {
  puts = Toward-more c.loop-i.invariant.puts c.text.ensures (pending-quote c.args.quote c.args.text.now c.loop-i.start c.loop-i.i c.loop-i.invariant.begun (omega arith) c.if-text-i.false);
  begun = omega arith;
}
