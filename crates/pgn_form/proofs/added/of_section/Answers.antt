use Rattle.pgn_form.proofs.ToldLaws.{ended_at, ended_nowhere, got, got_none}
use Rattle.pgn_form.proofs.added.of_section.Goals as goal

pub returns-in-Some : goal.returns-in-Some
returns-in-Some c = ended_at _ _ c.in-Some.part.now _ _ _ _ c.in-End.is (got _ _ _ _ c.as_slice.ensures c.in-Some.ensures.lookup.3.0 c.in-Some.ensures.lookup.1) c.end.ensures

pub returns-in-None : goal.returns-in-None
returns-in-None c = ended_nowhere _ _ _ _ c.in-End.is (got_none _ _ _ c.as_slice.ensures c.in-None.ensures.lookup.3)
