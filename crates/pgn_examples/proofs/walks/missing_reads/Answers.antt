use Rattle.std.proofs.Common.{sym, refl, arith}
use Rattle.std.proofs.lemmas.Bool.{true≢false}
use Rattle.pgn_examples.proofs.ApartSteps.{apart, is_idle}
use Rattle.pgn_examples.proofs.LawfulSteps.{trace-computed, fresh-computed}
use Rattle.pgn_examples.proofs.walks.missing_reads.Goals as goal

pub returns-clause-at_the_end : goal.returns-clause-at_the_end
returns-clause-at_the_end c = λ h. true≢false h.at_end.nothing_due

pub returns-clause-between_lines : goal.returns-clause-between_lines
returns-clause-between_lines c = λ h. true≢false ((h.between_lines.1.1.1.1.1.1.0 refl).up_to_date.nothing_due)

pub returns-clause-in_a_block : goal.returns-clause-in_a_block
returns-clause-in_a_block c = λ e. absurd (apart is_idle (sym e) refl refl)

pub returns-clause-read_left_out : goal.returns-clause-read_left_out
returns-clause-read_left_out c = λ h. let e = (h.between_lines.1.1.1.1.1.0 refl).read_first refl in absurd (omega (arith, e))

pub returns-clause-left_out_at_its_line : goal.returns-clause-left_out_at_its_line
returns-clause-left_out_at_its_line c = λ h. let e = (h refl).read_first refl in absurd (omega (arith, e))

pub returns-clause-block_is_fresh : goal.returns-clause-block_is_fresh
returns-clause-block_is_fresh c = fresh-computed refl

pub returns-clause-fresh_between_lines : goal.returns-clause-fresh_between_lines
returns-clause-fresh_between_lines c = fresh-computed refl

pub returns-clause-reads_behind : goal.returns-clause-reads_behind
returns-clause-reads_behind c = trace-computed refl refl refl refl refl refl

pub returns-clause-reads_before : goal.returns-clause-reads_before
returns-clause-reads_before c = trace-computed refl refl refl refl refl refl

pub returns-clause-fresh_before : goal.returns-clause-fresh_before
returns-clause-fresh_before c = fresh-computed refl
