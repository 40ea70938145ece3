use Rattle.std.proofs.Common.{sym, ◌∙◌}
use Rattle.pgn_walk.specs.Basis.{journal_of, terms_of}
use Rattle.pgn_check.proofs.FreshLaws.{fresh_by, fresh_late, fresh_no_line, fresh_open}
use Rattle.pgn_check.proofs.fresh.is_fresh_at.Goals as goal

pub returns-then-not-begins_line : goal.returns-then-not-begins_line
returns-then-not-begins_line c =
    let basis = c.args.basis.now in
    fresh_no_line (terms_of basis) (journal_of basis) c.args.at.now c.args.item.now (sym c.begins_line.ensures ∙ c.if-not-begins_line.true)

pub returns-then-not-is_idle : goal.returns-then-not-is_idle
returns-then-not-is_idle c =
    let basis = c.args.basis.now in
    fresh_open (terms_of basis) (journal_of basis) c.args.at.now c.args.item.now c.is_idle.result c.is_idle.ensures c.if-not-is_idle.true

pub returns-then-not-is_up_to_date : goal.returns-then-not-is_up_to_date
returns-then-not-is_up_to_date c =
    let basis = c.args.basis.now in
    fresh_late (terms_of basis) (journal_of basis) c.args.at.now c.args.item.now c.is_idle.result c.is_up_to_date.result (sym c.begins_line.ensures ∙ c.if-not-begins_line.false) c.is_idle.ensures c.if-not-is_idle.false
    c.is_up_to_date.ensures c.if-not-is_up_to_date.true

pub returns : goal.returns
returns c =
    let basis = c.args.basis.now in
    fresh_by (terms_of basis) (journal_of basis) c.args.at.now c.args.item.now c.is_idle.result c.is_up_to_date.result c.has_read_first.result (sym c.begins_line.ensures ∙ c.if-not-begins_line.false) c.is_idle.ensures
    c.if-not-is_idle.false c.is_up_to_date.ensures c.if-not-is_up_to_date.false (c.has_read_first.ensures (journal_of basis))
