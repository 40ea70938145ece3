use Rattle.std.proofs.Common.{drop, map}
use Rattle.pgn_model.specs.Text.{delivery_line, joined}
use Rattle.pgn_text.specs.Rendering.{marked}
use Rattle.pgn_text.proofs.PutsLaws.{Toward}
use Rattle.pgn_text.proofs.out.Out.delivery_lines.Given as goal

abbrev pub invariant-loop-delivery : goal.invariant-loop-delivery
invariant-loop-delivery g l = Toward g.K.Sink.held g.K.Sink.faults l.fn.sink l.fn.self l.sink l.self (joined (marked l.mark (map delivery_line (drop l.delivery-index l.got)))) (joined (marked l.mark (map delivery_line l.fn.got)))
