use Rattle.std.proofs.Common.{sym, refl}
use Rattle.std.specs.Prelude.{is_none, is_some}
use Rattle.pgn_examples.proofs.ApartSteps.{apart, is_mark, is_nothing}
use Rattle.pgn_examples.proofs.walks.refused_ends.Goals as goal

pub returns-clause-no_mark : goal.returns-clause-no_mark
returns-clause-no_mark c = λ h. apart is_some h.ended.mark refl refl

pub returns-clause-another_mark : goal.returns-clause-another_mark
returns-clause-another_mark c = λ h. apart (is_mark 4) h.ended.mark refl refl

pub returns-clause-a_mark : goal.returns-clause-a_mark
returns-clause-a_mark c = λ h. apart is_none h.ended.mark refl refl

pub returns-clause-in_an_await : goal.returns-clause-in_an_await
returns-clause-in_an_await c = λ h. apart is_nothing (sym h.ended.answered) refl refl

pub returns-clause-in_a_signal : goal.returns-clause-in_a_signal
returns-clause-in_a_signal c = λ h. apart is_nothing (sym h.ended.answered) refl refl

pub returns-clause-in_a_quit : goal.returns-clause-in_a_quit
returns-clause-in_a_quit c = λ h. apart is_nothing (sym h.ended.answered) refl refl

pub returns-clause-in_a_query : goal.returns-clause-in_a_query
returns-clause-in_a_query c = λ h. apart is_nothing (sym h.ended.answered) refl refl

pub returns-clause-in_a_query_of_usage : goal.returns-clause-in_a_query_of_usage
returns-clause-in_a_query_of_usage c = λ h. apart is_nothing (sym h.ended.answered) refl refl

pub returns-clause-in_a_refusal : goal.returns-clause-in_a_refusal
returns-clause-in_a_refusal c = λ h. apart is_nothing (sym h.ended.answered) refl refl
