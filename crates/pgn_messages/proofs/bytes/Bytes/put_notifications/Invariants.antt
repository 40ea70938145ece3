use Rattle.std.proofs.Common.{◌≡◌, ◌++◌, drop}
use Rattle.std.specs.Prelude.{flat_map}
use Rattle.pgn_messages.specs.Server.{notification}
use Rattle.pgn_messages.proofs.bytes.Bytes.put_notifications.Given as goal

-- what is put so far and what is still to be put are all
abbrev pub invariant-loop-delivery : goal.invariant-loop-delivery
invariant-loop-delivery l = l.self ++ flat_map notification (drop l.delivery-index l.deliveries) ≡ l.fn.self ++ flat_map notification l.deliveries
