use Rattle.pgn_lines.specs.Shown.{IsXid}
use Rattle.pgn_lines.proofs.LineLaws.{numbered}
use Rattle.pgn_lines.proofs.fields.one_xid.Goals as goal

pub returns : goal.returns
returns c = numbered IsXid c.args.line.now c.args.start.now c.in-Some.rest.now c.xid.result c.in-Some.ensures c.xid.ensures
