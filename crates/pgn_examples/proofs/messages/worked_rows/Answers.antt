use Rattle.std.proofs.Common.{refl}
use Rattle.std.specs.Fmt.{digits}
use Rattle.pgn_examples.proofs.messages.worked_rows.Goals as goal

pub returns-clause-second : goal.returns-clause-second
unfolding digits
returns-clause-second c = refl

pub returns-clause-fourth : goal.returns-clause-fourth
unfolding digits
returns-clause-fourth c = refl
