use Rattle.std.proofs.Common.{refl, arith, ap, ◌≡◌}
use Rattle.pgn_base.specs.declared.format.Format.TheVariants.{One}
use Rattle.pgn_journal.specs.Bytes.{entry_length}
use Rattle.pgn_journal.specs.Packing.{page_of, place, put, put_bytes, after_bytes, after_rest, after, ended}
use Rattle.pgn_examples.specs.Walks.{pages_journal}
use Rattle.pgn_journal.proofs.PackingLemmas.{place_folds}
use Rattle.pgn_examples.proofs.walks.how_near.Goals as goal

page_3 : page_of (place One pages_journal 3) ≡ 0
unfolding after ended put put_bytes after_bytes after_rest entry_length
page_3 = ap page_of (place_folds One pages_journal 3)

page_4 : page_of (place One pages_journal 4) ≡ 1
unfolding after ended put put_bytes after_bytes after_rest entry_length
page_4 = ap page_of (place_folds One pages_journal 4)

page_6 : page_of (place One pages_journal 6) ≡ 3
unfolding after ended put put_bytes after_bytes after_rest entry_length
page_6 = ap page_of (place_folds One pages_journal 6)

page_7 : page_of (place One pages_journal 7) ≡ 4
unfolding after ended put put_bytes after_bytes after_rest entry_length
page_7 = ap page_of (place_folds One pages_journal 7)

pub returns-clause-three_pages : goal.returns-clause-three_pages
returns-clause-three_pages c = record { nothing_due = refl; few_pages = rw (page_3, page_6) (omega arith) }

pub returns-clause-four_pages : goal.returns-clause-four_pages
returns-clause-four_pages c = λ h. let e = h.few_pages in absurd (omega (arith, e, page_3, page_7))

pub returns-clause-from_the_second : goal.returns-clause-from_the_second
returns-clause-from_the_second c = record { nothing_due = refl; few_pages = rw (page_4, page_7) (omega arith) }

pub returns-clause-something_is_due : goal.returns-clause-something_is_due
returns-clause-something_is_due c = λ h. let e = h.nothing_due in cc

pub returns-clause-of_the_last : goal.returns-clause-of_the_last
returns-clause-of_the_last c = λ h. let e = h.nothing_due in cc

pub returns-clause-at_the_end_of_what_is_due : goal.returns-clause-at_the_end_of_what_is_due
returns-clause-at_the_end_of_what_is_due c = record { nothing_due = refl; few_pages = omega arith }

pub returns-clause-by_its_format : goal.returns-clause-by_its_format
returns-clause-by_its_format c = λ journal h. h
