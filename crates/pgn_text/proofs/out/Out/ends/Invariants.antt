use Rattle.std.proofs.Common.{drop}
use Rattle.pgn_model.specs.Text.{joined}
use Rattle.pgn_text.specs.Rendering.{ends_lines}
use Rattle.pgn_text.proofs.PutsLaws.{Toward}
use Rattle.pgn_text.proofs.out.Out.ends.Given as goal

abbrev pub invariant-loop-i : goal.invariant-loop-i
invariant-loop-i g l = Toward g.K.Sink.held g.K.Sink.faults l.fn.sink l.fn.self l.sink l.self (joined (ends_lines (drop l.i l.sections) (drop l.i l.traces))) (joined (ends_lines l.fn.sections l.fn.traces))
