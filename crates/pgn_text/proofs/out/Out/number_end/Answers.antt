use Rattle.pgn_text.proofs.out.Out.number_end.Goals as goal

pub returns : goal.returns
returns g c = c.number_in.ensures
