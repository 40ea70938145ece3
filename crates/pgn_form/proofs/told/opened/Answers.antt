use Rattle.pgn_form.proofs.ToldLaws.{got, got_none, opened_at, opened_nowhere}
use Rattle.pgn_form.proofs.told.opened.Goals as goal

pub returns-in_default-clause-value : goal.returns-in_default-clause-value
returns-in_default-clause-value c = opened_nowhere c.args.section c.args.line.now _ (got_none _ _ _ c.as_slice.ensures c.in_default.ensures.lookup.3)

pub returns-then-not-branch-clause-value : goal.returns-then-not-branch-clause-value
returns-then-not-branch-clause-value c =
    opened_at c.args.section c.args.line.now _ c.in-Some.part.now _ _ (got _ _ _ _ c.as_slice.ensures c.in-Some.ensures.lookup.3.0 c.in-Some.ensures.lookup.1) c.in_ok-is_head.ensures c.if-not-branch.true

pub returns-clause-value : goal.returns-clause-value
returns-clause-value c =
    opened_at c.args.section c.args.line.now _ c.in-Some.part.now _ _ (got _ _ _ _ c.as_slice.ensures c.in-Some.ensures.lookup.3.0 c.in-Some.ensures.lookup.1) c.in_ok-is_head.ensures c.if-not-branch.false
