use Rattle.std.proofs.Common.{[], ◌∷◌, refl}
use Rattle.pgn_part_examples.specs.Hub.{tx_3}
use Rattle.pgn_hub.specs.Passes.{no_advance}
use Rattle.pgn_part_examples.proofs.hub.one_pass_alone.Goals as goal

pub returns-clause-published_twice : goal.returns-clause-published_twice
returns-clause-published_twice c = record { more = tx_3 ∷ []; named = []; advance = no_advance; number = refl; known = refl }
