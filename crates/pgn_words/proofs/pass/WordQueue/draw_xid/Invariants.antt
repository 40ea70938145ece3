use Rattle.pgn_words.proofs.pass.WordQueue.draw_xid.Given as goal

abbrev pub ghosts-draw_as : goal.ghosts-draw_as
ghosts-draw_as a = record { notes = a.notes.now }
