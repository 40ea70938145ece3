use Rattle.pgn_lines.specs.Shown.{IsShort}
use Rattle.pgn_lines.proofs.LineLaws.{numbered}
use Rattle.pgn_lines.proofs.fields.one_short.Goals as goal

pub returns : goal.returns
returns c = numbered IsShort c.args.line.now c.args.start.now c.in-Some.rest.now c.short.result c.in-Some.ensures c.short.ensures
