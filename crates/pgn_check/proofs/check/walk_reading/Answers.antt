use Rattle.pgn_check.proofs.check.walk_reading.Goals as goal

pub returns : goal.returns
returns c = rw c.in_ok-ledger.ensures.format at c.walk_sections-blamed.ensures
