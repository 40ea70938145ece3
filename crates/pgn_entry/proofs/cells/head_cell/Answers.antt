use Rattle.std.proofs.Common.{sym, ◌∙◌, arith}
use Rattle.pgn_entry.proofs.CellLaws.{head_cell_0, head_cell_1, head_cell_2, head_cell_pid, head_cell_else}
use Rattle.pgn_entry.proofs.cells.head_cell.Goals as goal

pub returns-in-0 : goal.returns-in-0
returns-in-0 c = head_cell_0 c.args.format c.args.len c.args.db c.args.xid c.args.pid c.args.number c.in-0.is c.ranges.len.fits

pub returns-in-1 : goal.returns-in-1
returns-in-1 c = head_cell_1 c.args.format c.args.len c.args.db c.args.xid c.args.pid c.args.number c.in-1.is c.ranges.db.fits

pub returns-in-2 : goal.returns-in-2
returns-in-2 c = head_cell_2 c.args.format c.args.len c.args.db c.args.xid c.args.pid c.args.number c.in-2.is c.ranges.xid.fits

pub returns-in_default : goal.returns-in_default
returns-in_default c =
    head_cell_pid c.args.format c.args.len c.args.db c.args.xid c.args.pid c.args.number (c.if-number-pid_cell.true ∙ c.pid_cell.ensures) c.ranges.pid.fits

pub returns-in_default-2 : goal.returns-in_default-2
returns-in_default-2 c =
    let no = c.in_default in
    head_cell_else c.args.format c.args.len c.args.db c.args.xid c.args.pid c.args.number c.requires (omega (arith, no)) (omega (arith, no)) (omega (arith, no)) (λ e. c.if-number-pid_cell.false (e ∙ sym c.pid_cell.ensures)) c.ranges.xid.fits
