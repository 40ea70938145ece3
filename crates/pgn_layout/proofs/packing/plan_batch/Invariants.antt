use Rattle.pgn_layout.proofs.PlanLaws.{Planning}
use Rattle.pgn_layout.proofs.packing.plan_batch.Given as goal

abbrev pub invariant-loop-fits : goal.invariant-loop-fits
invariant-loop-fits l = Planning l.format l.fn.pos l.notes l.fits l.next
