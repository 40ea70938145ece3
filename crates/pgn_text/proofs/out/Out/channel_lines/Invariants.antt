use Rattle.std.proofs.Common.{drop, map}
use Rattle.pgn_model.specs.Text.{channel_line, joined}
use Rattle.pgn_text.specs.Rendering.{marked}
use Rattle.pgn_text.proofs.PutsLaws.{Toward}
use Rattle.pgn_text.proofs.out.Out.channel_lines.Given as goal

abbrev pub invariant-loop-name : goal.invariant-loop-name
invariant-loop-name g l = Toward g.K.Sink.held g.K.Sink.faults l.fn.sink l.fn.self l.sink l.self (joined (marked l.mark (map channel_line (drop l.name-index l.names)))) (joined (marked l.mark (map channel_line l.fn.names)))
