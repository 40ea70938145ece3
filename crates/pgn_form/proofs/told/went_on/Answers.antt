use Rattle.pgn_form.proofs.ToldLaws.{got, got_none, script_nowhere, script_there, went_at, went_nowhere}
use Rattle.pgn_form.proofs.told.went_on.Goals as goal

pub returns-in_default-clause-value : goal.returns-in_default-clause-value
returns-in_default-clause-value c = went_nowhere c.args.section c.args.begun c.args.line.now _ (script_nowhere _ _ (got_none _ _ _ c.as_slice.ensures c.in_default.ensures.lookup.3))

pub returns-in_default-get-clause-value : goal.returns-in_default-get-clause-value
returns-in_default-get-clause-value c =
    went_nowhere c.args.section c.args.begun c.args.line.now _
    (script_there _ _ c.in-Some.part.now _ (got _ _ _ _ c.as_slice.ensures c.in-Some.ensures.lookup.3.0 c.in-Some.ensures.lookup.1) (got_none _ _ _ c.as_slice-2.ensures c.in_default-get.ensures.lookup.3))

pub returns-then-not-is_script-clause-value : goal.returns-then-not-is_script-clause-value
returns-then-not-is_script-clause-value c =
    went_at c.args.section c.args.begun c.args.line.now _ c.in-Some-get.script.now _ _
    (script_there _ _ c.in-Some.part.now _ (got _ _ _ _ c.as_slice.ensures c.in-Some.ensures.lookup.3.0 c.in-Some.ensures.lookup.1)
    (got _ _ _ _ c.as_slice-2.ensures c.in-Some-get.ensures.lookup.3.0 c.in-Some-get.ensures.lookup.1))
    c.is_script.ensures c.if-not-is_script.true

pub returns-clause-value : goal.returns-clause-value
returns-clause-value c =
    went_at c.args.section c.args.begun c.args.line.now _ c.in-Some-get.script.now _ _
    (script_there _ _ c.in-Some.part.now _ (got _ _ _ _ c.as_slice.ensures c.in-Some.ensures.lookup.3.0 c.in-Some.ensures.lookup.1)
    (got _ _ _ _ c.as_slice-2.ensures c.in-Some-get.ensures.lookup.3.0 c.in-Some-get.ensures.lookup.1))
    c.is_script.ensures c.if-not-is_script.false
