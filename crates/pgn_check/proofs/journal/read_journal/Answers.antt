use Rattle.std.proofs.Common.{◌≡◌, List, None, Some, sym, ap, ◌∙◌}
use Rattle.pgn_journal.specs.declared.tx.Tx.{Tx}
use Rattle.pgn_language.specs.declared.scenario.Section.{Section}
use Rattle.pgn_check.specs.Entries.{first_bad_from}
use Rattle.pgn_check.proofs.EntryLaws.{blamed_in_form, blamed_in_journal, read_so_far}
use Rattle.pgn_check.proofs.journal.read_journal.Goals as goal

pub returns-in-Err : goal.returns-in-Err
returns-in-Err c = blamed_in_form c.args.scenario.now c.args.out.now c.in-Err.number c.requires.sound (rw c.in-Err.is at c.in_ok-reading.ensures)

pub returns-in-Ok-Some : goal.returns-in-Ok-Some
returns-in-Ok-Some c =
    let told = rw c.in-Ok-Some.is at c.first_bad-bad.ensures in
    let at : first_bad_from c.as_slice.result.now 2 c.as_slice-2.result.now ≡ Some c.in-Ok-Some.number = cc in
    let found : first_bad_from c.args.scenario.now.sections 2 c.in-Ok.reading.journal ≡ Some c.in-Ok-Some.number =
    sym (ap (λ (sections : List Section). first_bad_from sections 2 c.as_slice-2.result.now) c.as_slice.ensures
    ∙ ap (λ (journal : List Tx). first_bad_from c.args.scenario.now.sections 2 journal) c.as_slice-2.ensures) ∙ at in
    blamed_in_journal c.args.scenario.now c.args.out.now c.in-Ok-Some.number c.in-Ok.reading.journal c.in-Ok.reading.traces c.requires.sound (rw c.in-Ok.is at c.in_ok-reading.ensures) found

pub returns-in-Ok-None : goal.returns-in-Ok-None
returns-in-Ok-None c =
    let told = rw c.in-Ok-None.is at c.first_bad-bad.ensures in
    let at : first_bad_from c.as_slice.result.now 2 c.as_slice-2.result.now ≡ None = cc in
    let none : first_bad_from c.args.scenario.now.sections 2 c.in-Ok.reading.journal ≡ None =
    sym (ap (λ (sections : List Section). first_bad_from sections 2 c.as_slice-2.result.now) c.as_slice.ensures
    ∙ ap (λ (journal : List Tx). first_bad_from c.args.scenario.now.sections 2 journal) c.as_slice-2.ensures) ∙ at in
    read_so_far c.args.scenario.now c.args.out.now c.in-Ok.reading.journal c.in-Ok.reading.traces (rw c.in-Ok.is at c.in_ok-reading.ensures) none
