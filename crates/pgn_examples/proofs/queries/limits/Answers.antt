use Rattle.std.proofs.Common.{[], ◌∷◌, ◌++◌, None, Some}
use Rattle.pgn_queries.specs.declared.wire_fault.WireFault.TheVariants.{TooMany}
use Rattle.pgn_queries.specs.Queries.{first_place}
use Rattle.pgn_examples.specs.Queries.{asks_notify, notify_first, notify_line}
use Rattle.pgn_examples.proofs.QueryReadings as bytes
use Rattle.pgn_queries.proofs.OneLaws.{one_reading}
use Rattle.pgn_examples.proofs.queries.limits.Goals as goal

pub returns-clause-second : goal.returns-clause-second
returns-clause-second c = bytes.second

pub returns-clause-other : goal.returns-clause-other
returns-clause-other c = bytes.other

pub returns-clause-two : goal.returns-clause-two
returns-clause-two c = bytes.two

pub returns-clause-none : goal.returns-clause-none
returns-clause-none c = bytes.none

pub returns-clause-one_too_many : goal.returns-clause-one_too_many
returns-clause-one_too_many c h =
    let same = (one_reading (first_place 1) (asks_notify ++ asks_notify) (notify_first ∷ []) (notify_first ∷ notify_line ∷ []) (Some (TooMany 19)) None bytes.second h).1 in
    absurd (cc)

pub returns-clause-one_too_few : goal.returns-clause-one_too_few
returns-clause-one_too_few c lines h =
    let same = (one_reading (first_place 2) (asks_notify ++ asks_notify) (notify_first ∷ notify_line ∷ []) lines None (Some (TooMany 19)) bytes.two h).1 in
    absurd (cc)
