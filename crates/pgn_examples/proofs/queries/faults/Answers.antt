use Rattle.pgn_examples.proofs.QueryReadings as bytes
use Rattle.pgn_examples.proofs.queries.faults.Goals as goal

pub returns-clause-type_behind : goal.returns-clause-type_behind
returns-clause-type_behind c = bytes.type_behind

pub returns-clause-length_of_a_query : goal.returns-clause-length_of_a_query
returns-clause-length_of_a_query c = bytes.length_of_a_query

pub returns-clause-greatest_length : goal.returns-clause-greatest_length
returns-clause-greatest_length c = bytes.greatest_length

pub returns-clause-greater_length : goal.returns-clause-greater_length
returns-clause-greater_length c = bytes.greater_length

pub returns-clause-length_of_a_terminate : goal.returns-clause-length_of_a_terminate
returns-clause-length_of_a_terminate c = bytes.length_of_a_terminate

pub returns-clause-cut : goal.returns-clause-cut
returns-clause-cut c = bytes.cut_within

pub returns-clause-no_zero_byte : goal.returns-clause-no_zero_byte
returns-clause-no_zero_byte c = bytes.no_zero_byte

pub returns-clause-two_zero_bytes : goal.returns-clause-two_zero_bytes
returns-clause-two_zero_bytes c = bytes.two_zero_bytes

pub returns-clause-no_utf8 : goal.returns-clause-no_utf8
returns-clause-no_utf8 c = bytes.no_utf8
