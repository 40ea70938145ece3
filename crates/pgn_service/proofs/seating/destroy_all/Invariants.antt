use Rattle.pgn_service.proofs.seating.destroy_all.Given as goal

abbrev pub decreases-loop-inbox : goal.decreases-loop-inbox
decreases-loop-inbox l = goal.left-loop-inbox l
