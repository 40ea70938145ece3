use Rattle.pgn_examples.proofs.QueryReadings as bytes
use Rattle.pgn_examples.proofs.queries.conversations.Goals as goal

pub returns-clause-two_queries : goal.returns-clause-two_queries
returns-clause-two_queries c = bytes.two_queries

pub returns-clause-ended_by_the_source : goal.returns-clause-ended_by_the_source
returns-clause-ended_by_the_source c = bytes.ended_by_the_source

pub returns-clause-behind_a_terminate : goal.returns-clause-behind_a_terminate
returns-clause-behind_a_terminate c = bytes.behind_a_terminate

pub returns-clause-no_byte : goal.returns-clause-no_byte
returns-clause-no_byte c = bytes.no_byte

pub returns-clause-no_text : goal.returns-clause-no_text
returns-clause-no_text c = bytes.no_text

pub returns-clause-an_lf : goal.returns-clause-an_lf
returns-clause-an_lf c = bytes.an_lf
