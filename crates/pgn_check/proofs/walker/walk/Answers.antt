use Rattle.pgn_check.proofs.walker.walk.Goals as goal

pub returns : goal.returns
returns c = rw c.new-walker.ensures.counted.1 at c.go-blamed.ensures
