use Rattle.std.proofs.Common.{◌≡◌, ◌++◌, drop}
use Rattle.std.specs.Prelude.{flat_map}
use Rattle.pgn_messages.specs.Server.{row}
use Rattle.pgn_messages.proofs.bytes.Bytes.put_name_rows.Given as goal

-- what is put so far and what is still to be put are all
abbrev pub invariant-loop-name : goal.invariant-loop-name
invariant-loop-name l = l.self ++ flat_map row (drop l.name-index l.names) ≡ l.fn.self ++ flat_map row l.names
