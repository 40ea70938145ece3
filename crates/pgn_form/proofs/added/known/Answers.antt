use Rattle.pgn_form.proofs.ToldLaws.{got, got_none, known_line, known_nothing, script_nowhere, script_there}
use Rattle.pgn_form.proofs.added.known.Goals as goal

pub returns-in_default-get : goal.returns-in_default-get
returns-in_default-get c = known_nothing c.args.scenario.now c.args.place c.args.draft.now _ _ _ c.in-Inside.is (script_nowhere _ _ (got_none _ _ _ c.as_slice.ensures c.in_default-get.ensures.lookup.3))

pub returns-in_default-get-2 : goal.returns-in_default-get-2
returns-in_default-get-2 c =
    known_nothing c.args.scenario.now c.args.place c.args.draft.now _ _ _ c.in-Inside.is
    (script_there _ _ c.in-Some.part.now _ (got _ _ _ _ c.as_slice.ensures c.in-Some.ensures.lookup.3.0 c.in-Some.ensures.lookup.1) (got_none _ _ _ c.as_slice-2.ensures c.in_default-get-2.ensures.lookup.3))

pub returns : goal.returns
returns c =
    known_line _ c.args.scenario.now c.args.place c.args.draft.now _ _ _ _ c.in-Some-get.script.now c.in-Inside.is
    (script_there _ _ c.in-Some.part.now _ (got _ _ _ _ c.as_slice.ensures c.in-Some.ensures.lookup.3.0 c.in-Some.ensures.lookup.1)
    (got _ _ _ _ c.as_slice-2.ensures c.in-Some-get.ensures.lookup.3.0 c.in-Some-get.ensures.lookup.1))
    c.push.ensures
