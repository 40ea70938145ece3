use Rattle.std.proofs.Common.{refl, arith}
use Rattle.std.specs.Fmt.{digits}
use Rattle.std.proofs.lemmas.List.Elements.{All-from_recursion}
use Rattle.pgn_base.specs.Notes.{IsNote}
use Rattle.pgn_journal.specs.Journal.{IsFinished}
use Rattle.pgn_journal.proofs.PlainNotes.{plain-note}
use Rattle.pgn_examples.specs.Runs.{hello, self_notify_journal}
use Rattle.pgn_examples.proofs.RunSteps.{one_committed}
use Rattle.pgn_examples.proofs.LawfulSteps.{trace-computed, fresh-computed, legal-computed}
use Rattle.pgn_examples.proofs.runs.runs_of_one.Goals as goal

hello_valid : IsNote hello
hello_valid = plain-note hello refl refl (omega arith) (omega arith) (omega arith)

pub returns-clause-self_notify : goal.returns-clause-self_notify
returns-clause-self_notify c =
    legal-computed (trace-computed refl refl refl refl refl refl, tt) (fresh-computed refl, tt) (refl, tt) (All-from_recursion IsFinished self_notify_journal (one_committed 1 1 hello hello_valid, tt))
    refl refl refl refl refl refl

pub returns-clause-self_notify_shown : goal.returns-clause-self_notify_shown
unfolding digits
returns-clause-self_notify_shown c = refl

pub returns-clause-empty_section_shown : goal.returns-clause-empty_section_shown
unfolding digits
returns-clause-empty_section_shown c = refl
