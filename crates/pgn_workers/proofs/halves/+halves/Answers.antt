use Rattle.std.proofs.Common.{List, ◌++◌, refl, sym, subst}
use Rattle.pgn_workers.specs.Parts.{part, MayStillRun}
use Rattle.pgn_workers.proofs.HalfLaws.{by-halves, half-begins, stands-still}
use Rattle.pgn_workers.proofs.halves.+halves.Goals as goal

pub run-run_still-requires : goal.run-run_still-requires
run-run_still-requires g t c = record {
  begins = λ none.
      (stands-still (g.C.Work.begins c.args.work.now) (g.C.Work.ran c.args.work.now) (part c.args.workers.now c.args.hand.now) (part c.run_apart-came.new.workers c.run_apart-came.new.hand) c.run_apart-came.result none c.run_apart-came.ensures).may;
}

pub run_apart-run_halves-answer-requires-clause-left : goal.run_apart-run_halves-answer-requires-clause-left
run_apart-run_halves-answer-requires-clause-left g t c =
    let left = c.split_at_mut-left.result.0.now in
    let right = c.split_at_mut-left.result.1.now in
    let first = part left c.cut-other.new.hand in
    let begins = g.C.Work.begins c.args.work.now in
    let cut = c.cut-other.ensures left right refl (subst (λ (ws : List g.row.W.Denot). begins (part ws c.args.hand.now)) c.split_at_mut-left.ensures.value c.requires.begins) in
    half-begins begins (g.C.Work.ran c.args.work.now) first (part c.join_halves-came.new.left c.join_halves-came.new.hand) c.join_halves-came.result.0
    (c.laws.ensures.begin_left (part (left ++ right) c.args.hand.now) first (part right c.cut-other.result) cut) c.join_halves-came.ensures.left

pub run_apart-run_halves-answer-requires-clause-right : goal.run_apart-run_halves-answer-requires-clause-right
run_apart-run_halves-answer-requires-clause-right g t c =
    let left = c.split_at_mut-left.result.0.now in
    let right = c.split_at_mut-left.result.1.now in
    let second = part right c.cut-other.result in
    let begins = g.C.Work.begins c.args.work.now in
    let cut = c.cut-other.ensures left right refl (subst (λ (ws : List g.row.W.Denot). begins (part ws c.args.hand.now)) c.split_at_mut-left.ensures.value c.requires.begins) in
    half-begins begins (g.C.Work.ran c.args.work.now) second (part c.join_halves-came.new.right c.join_halves-came.new.other) c.join_halves-came.result.1
    (c.laws.ensures.begin_right (part (left ++ right) c.args.hand.now) (part left c.cut-other.new.hand) second cut) c.join_halves-came.ensures.right

pub run_apart-join-requires : goal.run_apart-join-requires
run_apart-join-requires g t c =
    let left = c.split_at_mut-left.result.0.now in
    let right = c.split_at_mut-left.result.1.now in
    let first = part left c.cut-other.new.hand in
    let second = part right c.cut-other.result in
    record {
      whole = part (left ++ right) c.args.hand.now;
      left = first;
      left_new = part c.run_halves-answer.new.left c.run_halves-answer.new.hand;
      right = second;
      right_new = part c.run_halves-answer.new.right c.run_halves-answer.new.other;
      answer = c.run_halves-answer.result;
      halves = c.cut-other.ensures left right refl (subst (λ (ws : List g.row.W.Denot). g.C.Work.begins c.args.work.now (part ws c.args.hand.now)) c.split_at_mut-left.ensures.value c.requires.begins);
      came_to = c.run_halves-answer.ensures first second c.join_halves-came.ensures.left c.join_halves-came.ensures.right;
      first_hand = refl;
      second_hand = refl;
    }

pub run_apart-returns : goal.run_apart-returns
run_apart-returns g t c =
    let left = c.split_at_mut-left.result.0.now in
    let right = c.split_at_mut-left.result.1.now in
    let first = part left c.cut-other.new.hand in
    let second = part right c.cut-other.result in
    let cut = c.split_at_mut-left.ensures.value in
    let begins = g.C.Work.begins c.args.work.now in
    let ran = g.C.Work.ran c.args.work.now in
    subst (λ (ws : List g.row.W.Denot). MayStillRun begins ran (part ws c.args.hand.now) (part (c.run_halves-answer.new.left ++ c.run_halves-answer.new.right) c.join.new.hand) c.run_halves-answer.result) (sym cut)
    (by-halves begins ran (g.C.Work.cut_in c.args.work.now) (g.C.Work.joined c.args.work.now) c.laws.ensures.ran_both c.laws.ensures.ran_neither
    (part (left ++ right) c.args.hand.now) first (part c.run_halves-answer.new.left c.run_halves-answer.new.hand) second (part c.run_halves-answer.new.right c.run_halves-answer.new.other)
    c.join.new.hand c.run_halves-answer.result
    (c.cut-other.ensures left right refl (subst (λ (ws : List g.row.W.Denot). begins (part ws c.args.hand.now)) cut c.requires.begins))
    (c.run_halves-answer.ensures first second c.join_halves-came.ensures.left c.join_halves-came.ensures.right) c.join.ensures)
