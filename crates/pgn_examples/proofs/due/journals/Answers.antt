use Rattle.std.proofs.Common.{[], ◌∷◌, refl, arith, codes}
use Rattle.std.specs.Prelude.{All}
use Rattle.std.proofs.lemmas.List.Elements.{All-nil, All-cons}
use Rattle.pgn_base.specs.Notes.{IsNote}
use Rattle.pgn_journal.proofs.PlainNotes.{plain-note}
use Rattle.pgn_examples.specs.Due.{c_name, d_name, e_name, on, third_tx, fourth_tx}
use Rattle.pgn_answers.proofs.SavepointLemmas.{firsts-differ}
use Rattle.pgn_examples.proofs.due.journals.Goals as goal

third_valid : All IsNote third_tx.notes
third_valid =
    All-cons IsNote (on c_name (codes "y")) (on d_name (codes "y") ∷ []) (plain-note (on c_name (codes "y")) refl refl (omega arith) (omega arith) (omega arith))
    (All-cons IsNote (on d_name (codes "y")) [] (plain-note (on d_name (codes "y")) refl refl (omega arith) (omega arith) (omega arith)) (All-nil IsNote))

fourth_valid : All IsNote fourth_tx.notes
fourth_valid =
    All-cons IsNote (on d_name (codes "1")) (on e_name (codes "2") ∷ on c_name (codes "3") ∷ []) (plain-note (on d_name (codes "1")) refl refl (omega arith) (omega arith) (omega arith))
    (All-cons IsNote (on e_name (codes "2")) (on c_name (codes "3") ∷ []) (plain-note (on e_name (codes "2")) refl refl (omega arith) (omega arith) (omega arith))
    (All-cons IsNote (on c_name (codes "3")) [] (plain-note (on c_name (codes "3")) refl refl (omega arith) (omega arith) (omega arith)) (All-nil IsNote)))

pub returns-clause-committed : goal.returns-clause-committed
returns-clause-committed c = record { some = λ e. absurd (cc); valid = fourth_valid; different = firsts-differ fourth_tx.notes; queueing = refl }

pub returns-clause-aborted : goal.returns-clause-aborted
returns-clause-aborted c = record { some = λ e. absurd (cc); valid = third_valid; different = firsts-differ third_tx.notes; queueing = omega arith }

pub returns-clause-without_notes : goal.returns-clause-without_notes
returns-clause-without_notes c = λ finished. finished.some refl

pub returns-clause-repeated_note : goal.returns-clause-repeated_note
returns-clause-repeated_note c = λ finished. finished.different 0 1 (on d_name []) (omega arith) (omega arith) refl

pub returns-clause-committed_too_early : goal.returns-clause-committed_too_early
returns-clause-committed_too_early c = λ finished. let h = finished.queueing in absurd (omega arith)

pub returns-clause-aborted_too_late : goal.returns-clause-aborted_too_late
returns-clause-aborted_too_late c = λ finished. let h = finished.queueing in absurd (omega arith)
