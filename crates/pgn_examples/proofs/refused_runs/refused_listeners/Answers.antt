use Rattle.std.proofs.Common.{◌≡◌, ap, refl, rules, arith}
use Rattle.pgn_base.specs.declared.format.Format.TheVariants.{One}
use Rattle.pgn_journal.specs.Bytes.{entry_length}
use Rattle.pgn_journal.specs.Packing.{page_of, place, put, put_bytes, after_bytes, after_rest, ended, after}
use Rattle.pgn_examples.specs.Flags.{databases_journal, databases_sender_trace}
use Rattle.pgn_journal.proofs.PackingLemmas.{first_place, place_folds}
use Rattle.pgn_examples.proofs.LawfulSteps.{trace-computed}
use Rattle.pgn_examples.proofs.refused_runs.refused_listeners.Goals as goal

end_place : place One databases_journal 4 ≡ 5
unfolding put put_bytes after_bytes after_rest entry_length ended after
end_place = place_folds One databases_journal 4

pub returns-clause-fresh_without_read : goal.returns-clause-fresh_without_read
returns-clause-fresh_without_read c =
    let first : page_of (place One databases_journal 3) ≡ 0 = ap page_of (first_place One databases_journal) in
    let last : page_of (place One databases_journal 4) ≡ 0 = ap page_of end_place in
    record { between_lines = search rules; at_end = record { nothing_due = refl; few_pages = omega (arith, first, last) } }

pub returns-clause-not_read : goal.returns-clause-not_read
returns-clause-not_read c = λ h.
    let read : 3 ≡ 4 = h.read_all 0 databases_sender_trace (omega arith) in
    absurd (omega (arith, read))

pub returns-clause-lawful_without_read : goal.returns-clause-lawful_without_read
returns-clause-lawful_without_read c = trace-computed refl refl refl refl refl refl
