use Rattle.pgn_told.proofs.AskedLaws.{conversation-tells}
use Rattle.pgn_told.proofs.laws.conversation_tells.Goals as goal

pub returns : goal.returns
returns c = conversation-tells
