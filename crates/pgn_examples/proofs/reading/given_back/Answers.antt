use Rattle.std.proofs.Common.{refl}
use Rattle.pgn_examples.proofs.ReadingLaws.{run-shown}
use Rattle.pgn_examples.proofs.reading.given_back.Goals as goal

pub returns-clause-seen : goal.returns-clause-seen
returns-clause-seen c = refl

pub returns-clause-completed : goal.returns-clause-completed
returns-clause-completed c = refl

pub returns-clause-shown : goal.returns-clause-shown
returns-clause-shown c = run-shown
