use Rattle.pgn_messages.proofs.TurnGrowLaws.{said_stays, telling_walks, turns_grow}
use Rattle.pgn_laws.proofs.turns.growth.Goals as goal

pub returns-clause-turns_grow : goal.returns-clause-turns_grow
returns-clause-turns_grow c = turns_grow

pub returns-clause-said_stays : goal.returns-clause-said_stays
returns-clause-said_stays c = said_stays

pub returns-clause-telling_walks : goal.returns-clause-telling_walks
returns-clause-telling_walks c = telling_walks
