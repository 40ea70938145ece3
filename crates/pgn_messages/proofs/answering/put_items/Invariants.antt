use Rattle.std.proofs.Common.{◌≡◌, ◌++◌, drop}
use Rattle.std.specs.Prelude.{flat_map}
use Rattle.pgn_messages.specs.Served.{told_item}
use Rattle.pgn_messages.proofs.answering.put_items.Given as goal

-- what is put so far and what is still to be put are all
abbrev pub invariant-loop-item : goal.invariant-loop-item
invariant-loop-item l = l.bytes ++ flat_map (told_item l.query) (drop l.item-index l.items) ≡ l.fn.bytes ++ flat_map (told_item l.query) l.items
