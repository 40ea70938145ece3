use Rattle.pgn_journal.proofs.NearLaws.{near-shrinks, near-itself, near-grows}
use Rattle.pgn_laws.proofs.journal.near.Goals as goal

pub returns-clause-shrinks : goal.returns-clause-shrinks
returns-clause-shrinks c = near-shrinks

pub returns-clause-itself : goal.returns-clause-itself
returns-clause-itself c = near-itself

pub returns-clause-grows : goal.returns-clause-grows
returns-clause-grows c = near-grows
