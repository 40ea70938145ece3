use Rattle.pgn_text.proofs.out.Out.note_line.Goals as goal

pub returns : goal.returns
returns g c = c.note.ensures
