use Rattle.std.proofs.Common.{drop, map}
use Rattle.pgn_model.specs.Text.{joined, note_line}
use Rattle.pgn_text.proofs.PutsLaws.{Toward}
use Rattle.pgn_text.proofs.out.Out.note_lines.Given as goal

abbrev pub invariant-loop-note : goal.invariant-loop-note
invariant-loop-note g l = Toward g.K.Sink.held g.K.Sink.faults l.fn.sink l.fn.self l.sink l.self (joined (map note_line (drop l.note-index l.notes))) (joined (map note_line l.fn.notes))
