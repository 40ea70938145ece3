use Rattle.std.proofs.Common.{◌≡◌, ◌++◌, drop}
use Rattle.std.specs.Prelude.{flat_map}
use Rattle.pgn_messages.specs.Messages.{item_messages}
use Rattle.pgn_messages.proofs.bytes.Bytes.put_items.Given as goal

-- what is put so far and what is still to be put are all
abbrev pub invariant-loop-item : goal.invariant-loop-item
invariant-loop-item l = l.self ++ flat_map (item_messages l.command) (drop l.item-index l.items) ≡ l.fn.self ++ flat_map (item_messages l.command) l.items
