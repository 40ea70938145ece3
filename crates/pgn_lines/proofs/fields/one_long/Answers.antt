use Rattle.pgn_lines.specs.Shown.{IsLong}
use Rattle.pgn_lines.proofs.LineLaws.{numbered}
use Rattle.pgn_lines.proofs.fields.one_long.Goals as goal

pub returns : goal.returns
returns c = numbered IsLong c.args.line.now c.args.start.now c.in-Some.rest.now c.long.result c.in-Some.ensures c.long.ensures
