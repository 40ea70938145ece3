use Rattle.std.proofs.Common.{◌≡◌, List, [], ◌∷◌, length, nat_eq, sym, refl, arith, ℕ, zero, suc, ◌<◌, rules}
use Rattle.std.proofs.lemmas.Bool.{false≢true, true≢false}
use Rattle.std.proofs.lemmas.List.Elements.{All-head, All-tail, All-nil, All-cons}
use Rattle.std.specs.Prelude.{Contains, IfSome, All, true, Some}
use Rattle.std.proofs.lemmas.Str.{IsUtf8-from_ascii}
use Rattle.std.proofs.lemmas.Str.Ascii.{IsAscii-nil, IsAscii-cons}
use Rattle.pgn_journal.specs.declared.tx.Tx.{Tx}
use Rattle.pgn_journal.specs.declared.tx.Fate.TheVariants.{Committed}
use Rattle.pgn_model.specs.declared.trace.Trace.{Trace}
use Rattle.pgn_base.specs.Notes.{IsNote}
use Rattle.pgn_journal.specs.Journal.{IsFinished}
use Rattle.pgn_journal.specs.Due.{is_due_to}
use Rattle.pgn_model.specs.Legal.{names_section}
use Rattle.pgn_base.specs.declared.format.Format.TheVariants.{One}
use Rattle.pgn_journal.specs.Near.{Near}
use Rattle.pgn_journal.proofs.NearLaws.{near-itself}
use Rattle.pgn_examples.proofs.ApartSteps.{apart, is_done}
use Rattle.pgn_examples.specs.Walks.{other_journal, c_name, x_note, its_trace, enlisted, sender_trace, pair, sent_by, other_tx, two_sent}
use Rattle.pgn_examples.proofs.walks.runs_of_two.Goals as goal

-- one byte that is not zero
one_byte : (byte : ℕ) → 0 < byte → Contains (byte ∷ []) 0 → ⊥
one_byte byte some (zero, within, is) = absurd (omega (arith, some, is))
one_byte byte some (suc k, within, is) = absurd (omega (arith, within))

x_valid : IsNote x_note
x_valid = record {
  name = record { text = IsUtf8-from_ascii x_note.channel (IsAscii-cons 99 [] (omega arith) IsAscii-nil); some = omega arith; short = omega arith; no_nul = one_byte 99 (omega arith) };
  text = record { text = IsUtf8-from_ascii x_note.payload (IsAscii-cons 120 [] (omega arith) IsAscii-nil); short = omega arith; no_nul = one_byte 120 (omega arith) };
}

pub returns-clause-lawful : goal.returns-clause-lawful
returns-clause-lawful c = let valid : All IsNote (x_note ∷ []) = All-cons IsNote x_note [] x_valid (All-nil IsNote) in let near : Near One (is_due_to 7 (c_name ∷ [])) other_journal 4 4 = near-itself One (is_due_to 7 (c_name ∷ [])) other_journal 4 4 (omega arith) in search rules

pub returns-clause-a_trace_is_missing : goal.returns-clause-a_trace_is_missing
returns-clause-a_trace_is_missing c = λ h. h.lawful.1

pub returns-clause-a_trace_too_many : goal.returns-clause-a_trace_too_many
returns-clause-a_trace_too_many c = λ h. h.lawful.1.1

pub returns-clause-in_another_order : goal.returns-clause-in_another_order
returns-clause-in_another_order c = λ h. let e = h.lawful.0.session in absurd (omega (arith, e))

pub returns-clause-the_second_is_not_lawful : goal.returns-clause-the_second_is_not_lawful
returns-clause-the_second_is_not_lawful c = λ h. apart is_done (sym h.lawful.1.0.ended.done) refl refl

pub returns-clause-not_all_is_read : goal.returns-clause-not_all_is_read
returns-clause-not_all_is_read c = λ h. let e = All-head (λ (trace : Trace). IfSome trace.last (λ mark. mark ≡ 4)) (its_trace (enlisted 2 3 3) (Some 3)) (sender_trace ∷ []) h.read_all in absurd (omega (arith, e))

pub returns-clause-an_entry_is_not_shown : goal.returns-clause-an_entry_is_not_shown
returns-clause-an_entry_is_not_shown c = λ h. apart (λ (xids : List ℕ). nat_eq (length xids) 1) h.own.1.0 refl refl

pub returns-clause-an_entry_is_of_no_section : goal.returns-clause-an_entry_is_of_no_section
returns-clause-an_entry_is_of_no_section c = λ h. false≢true (All-head (λ (tx : Tx). names_section pair.sections tx.session ≡ true) (sent_by 8 7 (x_note ∷ [])) [] (All-tail (λ (tx : Tx). names_section pair.sections tx.session ≡ true) (other_tx (x_note ∷ [])) (sent_by 8 7 (x_note ∷ []) ∷ []) h.named))

pub returns-clause-an_entry_is_not_finished : goal.returns-clause-an_entry_is_not_finished
returns-clause-an_entry_is_not_finished c = λ h. let e = (All-head IsFinished (two_sent (x_note ∷ []) 0 Committed) [] h.finished).queueing in absurd (omega (arith, e))

pub returns-clause-a_read_is_left_out : goal.returns-clause-a_read_is_left_out
returns-clause-a_read_is_left_out c = λ h. true≢false ((h.fresh.0.between_lines.1.1.1.1.1.1.0 refl).up_to_date.nothing_due)
