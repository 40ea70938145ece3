use Rattle.std.proofs.Common.{◌≡◌, ◌++◌, drop}
use Rattle.std.specs.Prelude.{flat_map}
use Rattle.pgn_messages.specs.Turns.{heard}
use Rattle.pgn_messages.proofs.telling.put_reads.Given as goal

-- what is put so far and what is still to be put are all
abbrev pub invariant-loop-item : goal.invariant-loop-item
invariant-loop-item l = l.bytes ++ flat_map heard (drop l.item-index l.reads) ≡ l.fn.bytes ++ flat_map heard l.reads
