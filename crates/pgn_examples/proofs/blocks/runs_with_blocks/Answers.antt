use Rattle.std.proofs.Common.{refl, arith}
use Rattle.std.specs.Fmt.{digits}
use Rattle.std.proofs.lemmas.List.Elements.{All-nil, All-from_recursion}
use Rattle.pgn_base.specs.Notes.{IsNote}
use Rattle.pgn_journal.specs.Journal.{IsFinished}
use Rattle.pgn_journal.proofs.PlainNotes.{plain-note}
use Rattle.pgn_examples.specs.Blocks.{empty_note, left_journal}
use Rattle.pgn_examples.proofs.RunSteps.{one_committed}
use Rattle.pgn_examples.proofs.LawfulSteps.{trace-computed, fresh-computed, legal-computed}
use Rattle.pgn_examples.proofs.blocks.runs_with_blocks.Goals as goal

pub returns-clause-failed_block : goal.returns-clause-failed_block
returns-clause-failed_block c =
    legal-computed (trace-computed refl refl refl refl refl refl, tt) (fresh-computed refl, tt) (refl, tt) (All-nil IsFinished) refl refl refl refl refl refl

pub returns-clause-failed_block_shown : goal.returns-clause-failed_block_shown
unfolding digits
returns-clause-failed_block_shown c = refl

empty_valid : IsNote empty_note
empty_valid = plain-note empty_note refl refl (omega arith) (omega arith) (omega arith)

pub returns-clause-registered_then_left : goal.returns-clause-registered_then_left
returns-clause-registered_then_left c =
    legal-computed (trace-computed refl refl refl refl refl refl, tt) (fresh-computed refl, tt) (refl, tt) (All-from_recursion IsFinished left_journal (one_committed 1 1 empty_note empty_valid, tt))
    refl refl refl refl refl refl

pub returns-clause-registered_then_left_shown : goal.returns-clause-registered_then_left_shown
unfolding digits
returns-clause-registered_then_left_shown c = refl

pub returns-clause-usage_and_quit_shown : goal.returns-clause-usage_and_quit_shown
unfolding digits
returns-clause-usage_and_quit_shown c = refl
