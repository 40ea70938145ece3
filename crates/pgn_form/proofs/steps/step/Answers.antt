use Rattle.pgn_form.proofs.StepLaws.{no_move_at, taken_known, taken_shown}
use Rattle.pgn_form.proofs.steps.step.Goals as goal

pub returns-in-Some-clause-value : goal.returns-in-Some-clause-value
returns-in-Some-clause-value c =
    taken_known c.args.scenario.now c.args.place c.args.draft.now c.args.line.now c.in_ok-next.field-0 c.in-Some.next c.known.new.draft c.in_ok-next.ensures.value c.in-Some.is c.in_ok-known.ensures

pub returns-in_default-moved-clause-value : goal.returns-in_default-moved-clause-value
returns-in_default-moved-clause-value c =
    no_move_at c.args.scenario.now c.args.place c.args.line.now c.in_ok-next.field-0 c.in_ok-shown.field-0 c.in-Some-2.shown c.moved.result c.in_ok-next.ensures.value c.in_default.is c.in_ok-shown.ensures c.in-Some-2.is
    c.moved.ensures.moved c.in_default-moved.is

pub returns-clause-value : goal.returns-clause-value
returns-clause-value c =
    taken_shown c.args.scenario.now c.args.place c.args.draft.now c.args.line.now c.in_ok-next.field-0 c.in_ok-shown.field-0 c.in-Some-2.shown c.moved.result c.in-Some-moved.next c.added.new.draft c.in_ok-next.ensures.value
    c.in_default.is c.in_ok-shown.ensures c.in-Some-2.is c.moved.ensures.moved c.in-Some-moved.is c.in_ok-added.ensures
