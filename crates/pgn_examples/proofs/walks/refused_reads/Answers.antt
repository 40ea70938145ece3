use Rattle.std.proofs.Common.{arith, inl, inr, sym, refl, ℕ, Bool, nat_eq, List, length, codes}
use Rattle.std.specs.Prelude.{is_none, bytes_eq, flat_map, sum_by}
use Rattle.pgn_examples.proofs.ApartSteps.{apart, is_mark, is_idle, is_done}
use Rattle.pgn_base.specs.declared.note.Delivery.{Delivery}
use Rattle.pgn_examples.proofs.walks.refused_reads.Goals as goal

pub returns-clause-before_the_mark : goal.returns-clause-before_the_mark
returns-clause-before_the_mark c = λ h. apart (is_mark 4) h.lawful.1.1.1.0.from_mark refl refl

pub returns-clause-past_the_mark : goal.returns-clause-past_the_mark
returns-clause-past_the_mark c = λ h. apart (is_mark 3) h.lawful.1.1.1.0.from_mark refl refl

pub returns-clause-no_listener : goal.returns-clause-no_listener
returns-clause-no_listener c = λ h. apart is_none h.lawful.1.1.1.0.from_mark refl refl

pub returns-clause-twice : goal.returns-clause-twice
returns-clause-twice c = λ h. apart (is_mark 4) h.lawful.1.1.1.1.1.1.1.0.from_mark refl refl

pub returns-clause-of_none : goal.returns-clause-of_none
returns-clause-of_none c = λ h. let e = h.lawful.1.1.1.0.forward in absurd (omega (arith, e))

pub returns-clause-below_told : goal.returns-clause-below_told
returns-clause-below_told c = λ h. let e = h.lawful.1.1.1.1.1.1.0.after_told in absurd (omega (arith, e))

pub returns-clause-past_journal : goal.returns-clause-past_journal
returns-clause-past_journal c = λ h. let e = h.lawful.1.1.1.1.1.1.0.in_journal in absurd (omega (arith, e))

pub returns-clause-in_an_open_block : goal.returns-clause-in_an_open_block
returns-clause-in_an_open_block c = λ h. elim (h.lawful.1.1.1.1.1.0.in_turn) as (λ _. ⊥) [ inl e ↦ apart is_idle (sym e) refl refl | inr e ↦ apart is_done (sym e) refl refl ]

pub returns-clause-before_the_answer : goal.returns-clause-before_the_answer
returns-clause-before_the_answer c = λ h. h.lawful.1.1.0.in_turn

abbrev are : ℕ → List Delivery → Bool
are n got = nat_eq (length got) n

pub returns-clause-receives_nothing : goal.returns-clause-receives_nothing
returns-clause-receives_nothing c = λ h. apart (are 0) h.lawful.1.1.1.1.1.1.0.received refl refl

pub returns-clause-one_left_out : goal.returns-clause-one_left_out
returns-clause-one_left_out c = λ h. apart (are 2) h.lawful.1.1.1.1.1.1.0.received refl refl

pub returns-clause-one_too_many : goal.returns-clause-one_too_many
returns-clause-one_too_many c = λ h. apart (are 4) h.lawful.1.1.1.1.1.1.0.received refl refl

pub returns-clause-of_another_database : goal.returns-clause-of_another_database
returns-clause-of_another_database c = λ h. apart (are 4) h.lawful.1.1.1.1.1.1.0.received refl refl

pub returns-clause-in_another_order : goal.returns-clause-in_another_order
returns-clause-in_another_order c =
    λ h. apart (λ (got : List Delivery). bytes_eq (flat_map (λ (delivery : Delivery). delivery.note.payload) got) (codes "21x")) h.lawful.1.1.1.1.1.1.0.received refl refl

pub returns-clause-with_another_number : goal.returns-clause-with_another_number
returns-clause-with_another_number c = λ h. apart (λ (got : List Delivery). nat_eq (sum_by (λ (delivery : Delivery). delivery.xid) got) 12) h.lawful.1.1.1.1.1.1.0.received refl refl

pub returns-clause-of_another_process : goal.returns-clause-of_another_process
returns-clause-of_another_process c = λ h. apart (λ (got : List Delivery). nat_eq (sum_by (λ (delivery : Delivery). delivery.pid) got) 3018) h.lawful.1.1.1.1.1.1.0.received refl refl
