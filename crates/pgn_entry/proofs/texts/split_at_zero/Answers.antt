use Rattle.std.proofs.Common.{sym, ◌∙◌, arith}
use Rattle.pgn_entry.proofs.SplitLaws.{split_none, split_count, split_no_nul}
use Rattle.pgn_entry.proofs.texts.split_at_zero.Goals as goal

pub returns-in_err-end-clause-none : goal.returns-in_err-end-clause-none
returns-in_err-end-clause-none c =
    (λ _. split_none c.args.bytes.now (sym c.first_zero.ensures.first ∙ c.in_err-end.was), λ _. c.from_residual.ensures)

pub returns-clause-none : goal.returns-clause-none
returns-clause-none c =
    let more = split_count c.args.bytes.now c.in_ok-end.end (sym c.first_zero.ensures.first ∙ c.in_ok-end.was) in
    (λ e. absurd (cc), λ e. absurd (omega (arith, more, e)))

pub returns-clause-count : goal.returns-clause-count
returns-clause-count c = split_count c.args.bytes.now c.in_ok-end.end (sym c.first_zero.ensures.first ∙ c.in_ok-end.was)

pub returns-clause-no_nul : goal.returns-clause-no_nul
returns-clause-no_nul c = split_no_nul c.args.bytes.now c.in_ok-end.end (sym c.first_zero.ensures.first ∙ c.in_ok-end.was)
