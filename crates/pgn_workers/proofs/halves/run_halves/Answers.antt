use Rattle.pgn_workers.specs.Parts.{part}
use Rattle.pgn_workers.proofs.HalfLaws.{as-it-was, half-still}
use Rattle.pgn_workers.proofs.halves.run_halves.Goals as goal

pub returns-in-None-None : goal.returns-in-None-None
returns-in-None-None g c = λ l r left right.
    let begins = g.C.Work.begins c.args.work.now in
    let ran = g.C.Work.ran c.args.work.now in (
      as-it-was begins ran l (part c.args.left.now c.args.hand.now) c.args.came.0 c.in-None-None.is-0 left,
      as-it-was begins ran r (part c.args.right.now c.args.other.now) c.args.came.1 c.in-None-None.is-1 right,
    )

pub returns-in_default : goal.returns-in_default
returns-in_default g c = λ l r left right.
    let begins = g.C.Work.begins c.args.work.now in
    let ran = g.C.Work.ran c.args.work.now in
    record {
      first = c.run_still-first.result;
      second = c.run_still-second.result;
      left_ran = c.run_still-first.ensures l (half-still begins ran l (part c.args.left.now c.args.hand.now) c.args.came.0 c.requires.left left);
      right_ran = c.run_still-second.ensures r (half-still begins ran r (part c.args.right.now c.args.other.now) c.args.came.1 c.requires.right right);
      answers = c.and.ensures;
    }
