use Rattle.pgn_told.proofs.TellLaws.{messages-tell}
use Rattle.pgn_told.proofs.laws.messages_tell.Goals as goal

pub returns : goal.returns
returns c = messages-tell
