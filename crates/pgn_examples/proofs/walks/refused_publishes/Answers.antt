use Rattle.std.proofs.Common.{ℕ, ap, ◌≡◌, arith}
use Rattle.std.specs.Prelude.{flat_map}
use Rattle.pgn_base.specs.declared.note.Note.{Note}
use Rattle.pgn_examples.proofs.walks.refused_publishes.Goals as goal

pub returns-clause-other_notes : goal.returns-clause-other_notes
returns-clause-other_notes c = λ h. let e = ap (flat_map (λ (note : Note). note.payload)) (h.lawful.1.0.expected) in let n : ◌≡◌ {A = ℕ} 121 120 = cc in absurd (omega (arith, n))

pub returns-clause-repeats : goal.returns-clause-repeats
returns-clause-repeats c = λ h. let e = h.lawful.1.1.1.1.1.1.1.1.1.1.1.1.1.1.1.1.1.1.0.expected in cc

pub returns-clause-of_other_notes : goal.returns-clause-of_other_notes
returns-clause-of_other_notes c = λ h. let e = ap (flat_map (λ (note : Note). note.payload)) (h.lawful.1.0.in_journal.with_notes) in let n : ◌≡◌ {A = ℕ} 121 120 = cc in absurd (omega (arith, n))

pub returns-clause-of_another_session : goal.returns-clause-of_another_session
returns-clause-of_another_session c = λ h. let e = h.lawful.1.0.in_journal.by_session in absurd (omega (arith, e))

pub returns-clause-of_another_database : goal.returns-clause-of_another_database
returns-clause-of_another_database c = λ h. let e = h.lawful.1.0.in_journal.in_database in absurd (omega (arith, e))

pub returns-clause-of_an_aborted : goal.returns-clause-of_an_aborted
returns-clause-of_an_aborted c = λ h. let e = h.lawful.1.0.in_journal.committed in cc

pub returns-clause-past_journal : goal.returns-clause-past_journal
returns-clause-past_journal c = λ h. h.lawful.1.0.in_journal

pub returns-clause-below_the_first : goal.returns-clause-below_the_first
returns-clause-below_the_first c = λ h. let e = h.lawful.1.0.after_told in absurd (omega (arith, e))

pub returns-clause-out_of_order : goal.returns-clause-out_of_order
returns-clause-out_of_order c = λ h. let e = h.lawful.1.1.1.1.0.after_told in absurd (omega (arith, e))

pub returns-clause-one_for_two : goal.returns-clause-one_for_two
returns-clause-one_for_two c = λ h. let e = h.lawful.1.1.1.1.0.after_told in absurd (omega (arith, e))

pub returns-clause-below_the_mark : goal.returns-clause-below_the_mark
returns-clause-below_the_mark c = λ h. let e = h.lawful.1.1.1.1.0.after_mark in absurd (omega (arith, e))

pub returns-clause-twice : goal.returns-clause-twice
returns-clause-twice c = λ h. h.lawful.1.1.0.expected

pub returns-clause-unasked : goal.returns-clause-unasked
returns-clause-unasked c = λ h. h.lawful.1.1.0.expected

pub returns-clause-before_enlist : goal.returns-clause-before_enlist
returns-clause-before_enlist c = λ h. h.lawful.1.1.1.1.1.1.1.1.1.0.expected

pub returns-clause-rolled_back : goal.returns-clause-rolled_back
returns-clause-rolled_back c = λ h. h.lawful.1.1.1.1.1.0.expected
