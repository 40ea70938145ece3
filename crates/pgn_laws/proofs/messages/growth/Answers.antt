use Rattle.pgn_messages.proofs.GrowLaws.{query_answers, others_are_silent}
use Rattle.pgn_laws.proofs.messages.growth.Goals as goal

pub returns-clause-query_answers : goal.returns-clause-query_answers
returns-clause-query_answers c = query_answers

pub returns-clause-others_are_silent : goal.returns-clause-others_are_silent
returns-clause-others_are_silent c = others_are_silent
