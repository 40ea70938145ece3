use Rattle.std.proofs.Common.{◌≡◌, ap, refl, arith}
use Rattle.pgn_base.specs.declared.format.Format.TheVariants.{One}
use Rattle.pgn_journal.specs.Bytes.{entry_length}
use Rattle.pgn_journal.specs.Packing.{page_of, place, put, put_bytes, after_bytes, after_rest, after, ended}
use Rattle.pgn_journal.proofs.PackingLemmas.{first_place, place_folds}
use Rattle.pgn_examples.specs.Walks.{d_journal}
use Rattle.pgn_examples.proofs.walks.first_reads.Goals as goal

page_3 : page_of (place One d_journal 3) ≡ 0
page_3 = ap page_of (first_place One d_journal)

page_4 : page_of (place One d_journal 4) ≡ 0
unfolding after ended put put_bytes after_bytes after_rest entry_length
page_4 = ap page_of (place_folds One d_journal 4)

pub returns-clause-listen : goal.returns-clause-listen
returns-clause-listen c = λ h. let e = (h refl).read_first refl in absurd (omega (arith, e))

pub returns-clause-begin : goal.returns-clause-begin
returns-clause-begin c = λ h. let e = (h refl).read_first refl in absurd (omega (arith, e))

pub returns-clause-start : goal.returns-clause-start
returns-clause-start c = λ h. let e = (h refl).read_first refl in absurd (omega (arith, e))

pub returns-clause-notify : goal.returns-clause-notify
returns-clause-notify c = λ idle. record {
  up_to_date = record { nothing_due = refl; few_pages = omega (arith, page_3, page_4) };
  read_first = λ reads. absurd (let no : ⊥ = cc in no);
}

pub returns-clause-in_a_block : goal.returns-clause-in_a_block
returns-clause-in_a_block c = λ idle. absurd cc
