use Rattle.std.proofs.Common.{arith}
use Rattle.std.proofs.lemmas.Bool.Decides.{nat_tests}
use Rattle.pgn_layout.proofs.PlanLaws.{goes_on, plans_page}
use Rattle.pgn_layout.proofs.packing.plan_batch.Goals as goal

pub returns-then-eq-clause-planned : goal.returns-then-eq-clause-planned
returns-then-eq-clause-planned c =
    plans_page c.args.format c.args.pos c.args.notes.now c.loop-fits.fits c.loop-fits.next _ c.advance-next.result c.index-notes-fits.result c.loop-fits.invariant c.loop-fits-test.true
    c.index-notes-fits.is c.entry_len-len.ensures.value (omega arith) c.advance-next.ensures.value (grind (arith, nat_tests))

pub loop-fits-preserved : goal.loop-fits-preserved
loop-fits-preserved c =
    goes_on c.args.format c.args.pos c.args.notes.now c.loop-fits.fits c.loop-fits.next _ c.advance-next.result c.index-notes-fits.result c.loop-fits.invariant c.loop-fits-test.true
    c.index-notes-fits.is c.entry_len-len.ensures.value (omega arith) c.advance-next.ensures.value c.advance-next.ensures.further c.entry_len-len.ensures.fits.whole (λ e. grind (arith, nat_tests))
