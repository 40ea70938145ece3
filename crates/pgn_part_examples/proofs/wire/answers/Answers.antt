use Rattle.std.proofs.Common.{[], refl}
use Rattle.pgn_part_examples.specs.Wire.{listens}
use Rattle.pgn_part_examples.proofs.WireLaws.{no-half}
use Rattle.pgn_part_examples.proofs.wire.answers.Goals as goal

pub returns-clause-whole : goal.returns-clause-whole
returns-clause-whole c = record { front = listens; behind = []; split = refl; line = tt; are = refl }

pub returns-clause-nothing : goal.returns-clause-nothing
returns-clause-nothing c = record { front = []; behind = listens; split = refl; line = tt; are = refl }

pub returns-clause-half : goal.returns-clause-half
returns-clause-half c = λ h. no-half h.front h.behind h.split h.line h.are
