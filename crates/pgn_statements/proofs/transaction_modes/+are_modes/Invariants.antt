use Rattle.pgn_statements.proofs.transaction_modes.+are_modes.Given as goal

abbrev pub decreases-are_modes : goal.decreases-are_modes
decreases-are_modes l = l.most
