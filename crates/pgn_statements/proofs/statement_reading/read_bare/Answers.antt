use Rattle.pgn_statements.proofs.StepLaws.{told-asks}
use Rattle.pgn_statements.proofs.statement_reading.read_bare.Goals as goal

pub returns : goal.returns
returns c = told-asks c.args.text.now c.in_ok-command.command c.request_of.result c.in_ok-command.ensures c.request_of.ensures
