use Rattle.pgn_check.proofs.FreshLaws.{first_by, first_none}
use Rattle.pgn_check.proofs.fresh.has_read_first.Goals as goal

pub returns-then-not-is_first_read_next : goal.returns-then-not-is_first_read_next
returns-then-not-is_first_read_next c = λ journal.
    first_none c.args.section.now journal c.args.at.now c.is_first_read_next.result c.is_first_read_next.ensures c.if-not-is_first_read_next.true

pub returns : goal.returns
returns c = λ journal.
    first_by c.args.section.now journal c.args.at.now c.is_first_read_next.result c.is_read_up.result c.is_first_read_next.ensures c.if-not-is_first_read_next.false c.is_read_up.ensures
