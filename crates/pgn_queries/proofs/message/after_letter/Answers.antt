use Rattle.pgn_queries.proofs.ClientLaws.{Letter-query, Letter-terminate}
use Rattle.pgn_queries.proofs.message.after_letter.Goals as goal

pub returns-in-81-clause-next : goal.returns-in-81-clause-next
returns-in-81-clause-next g c = Letter-query c.args.at c.args.letter _ c.query.result _ _ c.in-81.is c.query.ensures.next

pub returns-in-88-clause-next : goal.returns-in-88-clause-next
returns-in-88-clause-next g c = Letter-terminate c.args.at c.args.letter _ c.terminate.result _ _ c.in-88.is c.terminate.ensures.next
