use Rattle.pgn_command.proofs.texts.+repeated.Given as goal

abbrev pub decreases-repeated : goal.decreases-repeated
decreases-repeated l = l.count
