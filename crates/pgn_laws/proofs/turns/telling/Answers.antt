use Rattle.pgn_laws.proofs.MessageLaws.{answers_are_messages}
use Rattle.pgn_laws.proofs.ToldLaws.{one_discard_is_told, one_end_is_told, one_query_is_told, one_settled_is_told, reads_are_heard}
use Rattle.pgn_laws.proofs.turns.telling.Goals as goal

pub returns-clause-reads_are_heard : goal.returns-clause-reads_are_heard
returns-clause-reads_are_heard c = reads_are_heard

pub returns-clause-one_query_is_told : goal.returns-clause-one_query_is_told
returns-clause-one_query_is_told c = one_query_is_told

pub returns-clause-one_end_is_told : goal.returns-clause-one_end_is_told
returns-clause-one_end_is_told c = one_end_is_told

pub returns-clause-answers_are_messages : goal.returns-clause-answers_are_messages
returns-clause-answers_are_messages c = answers_are_messages

pub returns-clause-one_settled_is_told : goal.returns-clause-one_settled_is_told
returns-clause-one_settled_is_told c = one_settled_is_told

pub returns-clause-one_discard_is_told : goal.returns-clause-one_discard_is_told
returns-clause-one_discard_is_told c = one_discard_is_told
