use Rattle.std.proofs.Common.{sym}
use Rattle.pgn_run.proofs.PartingLaws.{line-ends, line-has-no-end}
use Rattle.pgn_run.proofs.parting.line_length.Goals as goal

pub returns-in-Some-clause-length : goal.returns-in-Some-clause-length
returns-in-Some-clause-length c = sym (line-ends c.args.text.now c.in-Some.end c.in-Some.ensures.0 c.in-Some.ensures.1)

pub returns-in-None-clause-length : goal.returns-in-None-clause-length
returns-in-None-clause-length c = sym (line-has-no-end c.args.text.now c.in-None.ensures)
