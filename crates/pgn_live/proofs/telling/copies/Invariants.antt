use Rattle.std.proofs.Common.{◌≡◌, take}
use Rattle.pgn_live.proofs.telling.copies.Given as goal

abbrev pub invariant-loop-item : goal.invariant-loop-item
invariant-loop-item l = l.copies.items ≡ take l.item-index l.items
