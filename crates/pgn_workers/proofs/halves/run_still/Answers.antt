use Rattle.pgn_workers.specs.Parts.{part}
use Rattle.pgn_workers.proofs.HalfLaws.{has-run, stands-still}
use Rattle.pgn_workers.proofs.halves.run_still.Goals as goal

pub returns-in-Some : goal.returns-in-Some
returns-in-Some g c = λ old came.
    has-run (g.C.Work.begins c.args.work.now) (g.C.Work.ran c.args.work.now) old (part c.args.workers.now c.args.hand.now) c.args.came c.in-Some.answer c.in-Some.is came

pub returns-in-None : goal.returns-in-None
returns-in-None g c = λ old came.
    (stands-still (g.C.Work.begins c.args.work.now) (g.C.Work.ran c.args.work.now) old (part c.args.workers.now c.args.hand.now) c.args.came c.in-None.is came).comes_to _ _ c.run_in_turns.ensures
