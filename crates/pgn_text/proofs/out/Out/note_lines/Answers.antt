use Rattle.std.proofs.Common.{arith}
use Rattle.pgn_model.specs.Text.{note_line}
use Rattle.pgn_text.proofs.PutsLaws.{Toward-all, Toward-line, Toward-none, lines-end}
use Rattle.pgn_text.proofs.out.Out.note_lines.Goals as goal

pub loop-note-init : goal.loop-note-init
loop-note-init g c = Toward-none g.K.Sink.held g.K.Sink.faults c.args.sink.now c.args.self.now _

pub loop-note-preserved : goal.loop-note-preserved
loop-note-preserved g c = Toward-line note_line c.args.notes.now c.loop-note.note-index c.note-item.result c.loop-note.invariant c.note-item.is (omega arith) c.note_line.ensures

pub returns : goal.returns
returns g c = Toward-all c.loop-note.invariant (lines-end note_line c.args.notes.now c.loop-note.note-index (omega arith))
