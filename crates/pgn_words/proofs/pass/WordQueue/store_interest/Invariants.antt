use Rattle.pgn_words.proofs.pass.WordQueue.store_interest.Given as goal

abbrev pub ghosts-store_interest_as : goal.ghosts-store_interest_as
ghosts-store_interest_as a = record { channels = a.set.now.channels }
