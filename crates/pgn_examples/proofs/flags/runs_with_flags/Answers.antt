use Rattle.std.proofs.Common.{refl, arith}
use Rattle.std.specs.Fmt.{digits}
use Rattle.std.proofs.lemmas.List.Elements.{All-from_recursion}
use Rattle.pgn_base.specs.Notes.{IsNote}
use Rattle.pgn_journal.specs.Journal.{IsFinished}
use Rattle.pgn_journal.proofs.PlainNotes.{plain-note}
use Rattle.pgn_examples.specs.Flags.{notified_x, hi, old, from_a, from_b, databases_journal, held_journal, filter_journal, crossing_journal}
use Rattle.pgn_examples.proofs.RunSteps.{one_committed}
use Rattle.pgn_examples.proofs.LawfulSteps.{trace-computed, fresh-computed, legal-computed}
use Rattle.pgn_examples.proofs.flags.runs_with_flags.Goals as goal

notified_x_valid : IsNote notified_x
notified_x_valid = plain-note notified_x refl refl (omega arith) (omega arith) (omega arith)

hi_valid : IsNote hi
hi_valid = plain-note hi refl refl (omega arith) (omega arith) (omega arith)

old_valid : IsNote old
old_valid = plain-note old refl refl (omega arith) (omega arith) (omega arith)

from_a_valid : IsNote from_a
from_a_valid = plain-note from_a refl refl (omega arith) (omega arith) (omega arith)

from_b_valid : IsNote from_b
from_b_valid = plain-note from_b refl refl (omega arith) (omega arith) (omega arith)

pub returns-clause-databases : goal.returns-clause-databases
returns-clause-databases c =
    legal-computed (trace-computed refl refl refl refl refl refl, (trace-computed refl refl refl refl refl refl, tt)) (fresh-computed refl, (fresh-computed refl, tt)) (refl, (refl, tt))
    (All-from_recursion IsFinished databases_journal (one_committed 2 2 notified_x notified_x_valid, tt)) refl refl refl refl refl refl

pub returns-clause-databases_shown : goal.returns-clause-databases_shown
unfolding digits
returns-clause-databases_shown c = refl

pub returns-clause-held_back_by_block : goal.returns-clause-held_back_by_block
returns-clause-held_back_by_block c =
    legal-computed (trace-computed refl refl refl refl refl refl, (trace-computed refl refl refl refl refl refl, tt)) (fresh-computed refl, (fresh-computed refl, tt)) (refl, (refl, tt))
    (All-from_recursion IsFinished held_journal (one_committed 2 1 hi hi_valid, tt)) refl refl refl refl refl refl

pub returns-clause-held_back_by_block_shown : goal.returns-clause-held_back_by_block_shown
unfolding digits
returns-clause-held_back_by_block_shown c = refl

pub returns-clause-filter_at_read : goal.returns-clause-filter_at_read
returns-clause-filter_at_read c =
    legal-computed (trace-computed refl refl refl refl refl refl, (trace-computed refl refl refl refl refl refl, tt)) (fresh-computed refl, (fresh-computed refl, tt)) (refl, (refl, tt))
    (All-from_recursion IsFinished filter_journal (one_committed 2 1 old old_valid, tt)) refl refl refl refl refl refl

pub returns-clause-filter_at_read_shown : goal.returns-clause-filter_at_read_shown
unfolding digits
returns-clause-filter_at_read_shown c = refl

pub returns-clause-time_out_shown : goal.returns-clause-time_out_shown
unfolding digits
returns-clause-time_out_shown c = refl

pub returns-clause-crossing_flags : goal.returns-clause-crossing_flags
returns-clause-crossing_flags c =
    legal-computed (trace-computed refl refl refl refl refl refl, (trace-computed refl refl refl refl refl refl, tt)) (fresh-computed refl, (fresh-computed refl, tt)) (refl, (refl, tt))
    (All-from_recursion IsFinished crossing_journal (one_committed 1 1 from_a from_a_valid, (one_committed 2 1 from_b from_b_valid, tt))) refl refl refl refl refl refl

pub returns-clause-crossing_flags_shown : goal.returns-clause-crossing_flags_shown
unfolding digits
returns-clause-crossing_flags_shown c = refl
