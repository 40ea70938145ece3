use Rattle.std.proofs.Common.{drop}
use Rattle.pgn_model.specs.Text.{joined}
use Rattle.pgn_text.specs.Rendering.{HasPassed, marked_items}
use Rattle.pgn_text.proofs.PutsLaws.{Toward}
use Rattle.pgn_text.proofs.out.Out.items.Given as goal

abbrev pub invariant-loop-item : goal.invariant-loop-item
invariant-loop-item g l = record {
  puts : Toward g.K.Sink.held g.K.Sink.faults l.fn.sink l.fn.self l.sink l.self (joined (marked_items l.mark l.lines (drop l.item-index l.items))) (joined (marked_items l.mark l.lines l.fn.items));
  passed : HasPassed l.lines l.cursor;
}
