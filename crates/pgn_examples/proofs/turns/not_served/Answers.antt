use Rattle.std.proofs.Common.{ℕ, List, Some, length, get_or, refl, ap}
use Rattle.std.specs.Prelude.{map}
use Rattle.pgn_requests.specs.declared.settled.Settled.TheVariants.{One}
use Rattle.pgn_examples.specs.Conversations.{endless_bytes, same_status_bytes, sets_name, sets_nothing, unreported_bytes}
use Rattle.pgn_examples.proofs.TurnLaws.{apart, settled-alone}
use Rattle.pgn_examples.proofs.turns.not_served.Goals as goal

pub returns-clause-same_status : goal.returns-clause-same_status
returns-clause-same_status c told = apart 38 15 refl (ap length (settled-alone 1 sets_nothing (map Some same_status_bytes) told))

pub returns-clause-no_status : goal.returns-clause-no_status
returns-clause-no_status c told = apart 15 39 refl (ap length (settled-alone 1 sets_name (map Some unreported_bytes) told))

pub returns-clause-no_ready : goal.returns-clause-no_ready
returns-clause-no_ready c told = apart 60 66 refl (ap length (settled-alone 1 One (map Some endless_bytes) told))

pub returns-clause-set_in_failed_block : goal.returns-clause-set_in_failed_block
returns-clause-set_in_failed_block c e = apart 69 67 refl (ap (λ (bytes : List ℕ). get_or bytes 0 0) e)

pub returns-clause-name_of_another : goal.returns-clause-name_of_another
returns-clause-name_of_another c e = apart 69 70 refl (ap length e)
