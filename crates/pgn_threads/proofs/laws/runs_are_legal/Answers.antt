use Rattle.pgn_threads.proofs.RunLaws.{runs-are_legal}
use Rattle.pgn_threads.proofs.laws.runs_are_legal.Goals as goal

pub returns : goal.returns
returns c = runs-are_legal
