use Rattle.std.proofs.Common.{[], ◌∷◌, refl}
use Rattle.pgn_part_examples.specs.Hub.{tx_3}
use Rattle.pgn_hub.specs.Passes.{no_advance}
use Rattle.pgn_part_examples.proofs.hub.publish.Goals as goal

pub returns-clause-met : goal.returns-clause-met
returns-clause-met c = record { more = []; named = []; advance = no_advance; number = refl; known = refl }

pub returns-clause-after_another : goal.returns-clause-after_another
returns-clause-after_another c = record { more = tx_3 ∷ []; named = []; advance = no_advance; number = refl; known = refl }
