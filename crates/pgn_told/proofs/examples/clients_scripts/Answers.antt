use Rattle.pgn_told.proofs.ExampleLaws.{a-flag, no-quit, none-asks, query-asks}
use Rattle.pgn_told.proofs.examples.clients_scripts.Goals as goal

pub returns-clause-met : goal.returns-clause-met
returns-clause-met c = query-asks

pub returns-clause-nothing_asked : goal.returns-clause-nothing_asked
returns-clause-nothing_asked c = none-asks

pub returns-clause-no_quit : goal.returns-clause-no_quit
returns-clause-no_quit c = no-quit

pub returns-clause-a_flag : goal.returns-clause-a_flag
returns-clause-a_flag c = a-flag
