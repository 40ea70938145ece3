use Rattle.std.proofs.Common.{refl, ◌∙◌, arith}
use Rattle.pgn_entry.proofs.CellLaws.{same_head, filler_cell_head, filler_cell_rest}
use Rattle.pgn_entry.proofs.cells.filler_cell.Goals as goal

pub returns-then-number-header_len : goal.returns-then-number-header_len
returns-then-number-header_len c =
    filler_cell_rest c.args.format c.args.len c.args.xid c.args.pid c.args.number (omega (arith, c.if-number-header_len.true, c.header_len.ensures))

pub returns : goal.returns
returns c =
    c.head_cell.ensures
    ∙ same_head c.args.format c.args.len c.args.len 0 0 c.get.result c.args.xid c.args.pid c.args.pid c.args.number refl refl c.get.ensures.value refl
    ∙ filler_cell_head c.args.format c.args.len c.args.xid c.args.pid c.args.number (omega (arith, c.if-number-header_len.false, c.header_len.ensures))
