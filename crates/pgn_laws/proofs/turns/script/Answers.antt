use Rattle.pgn_laws.proofs.ScriptLaws.{script_rises}
use Rattle.pgn_laws.proofs.turns.script.Goals as goal

pub returns : goal.returns
returns c = script_rises
