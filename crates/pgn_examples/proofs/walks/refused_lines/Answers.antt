use Rattle.std.proofs.Common.{arith, sym, refl}
use Rattle.pgn_examples.proofs.ApartSteps.{apart, is_nothing, is_answering, is_done}
use Rattle.pgn_examples.proofs.walks.refused_lines.Goals as goal

pub returns-clause-of_another_session : goal.returns-clause-of_another_session
returns-clause-of_another_session c = λ h. let e = h.session in absurd (omega (arith, e))

pub returns-clause-of_another_database : goal.returns-clause-of_another_database
returns-clause-of_another_database c = λ h. let e = h.database in absurd (omega (arith, e))

pub returns-clause-out_of_order : goal.returns-clause-out_of_order
returns-clause-out_of_order c = λ h. let e = h.lawful.0.next in absurd (omega (arith, e))

pub returns-clause-another_number : goal.returns-clause-another_number
returns-clause-another_number c = λ h. let e = h.lawful.0.next in absurd (omega (arith, e))

pub returns-clause-left_out : goal.returns-clause-left_out
returns-clause-left_out c = λ h. apart is_done (sym h.ended.done) refl refl

pub returns-clause-one_more : goal.returns-clause-one_more
returns-clause-one_more c = λ h. h.lawful.1.1.1.0.next

pub returns-clause-twice : goal.returns-clause-twice
returns-clause-twice c = λ h. h.lawful.1.1.1.0.next

pub returns-clause-before_the_answer : goal.returns-clause-before_the_answer
returns-clause-before_the_answer c = λ h. apart is_answering h.lawful.1.1.0.answered refl refl

pub returns-clause-in_an_await : goal.returns-clause-in_an_await
returns-clause-in_an_await c = λ h. apart is_nothing (sym h.lawful.1.1.1.1.0.answered) refl refl
