use Rattle.std.proofs.Common.{◌≡◌, ◌&&◌, drop}
use Rattle.std.specs.List.{list_all}
use Rattle.pgn_language.specs.Tokens.{is_blank}
use Rattle.pgn_command.proofs.bytes.are_blank.Given as goal

abbrev pub invariant-loop-byte : goal.invariant-loop-byte
invariant-loop-byte l = list_all is_blank l.group ≡ (l.all && list_all is_blank (drop l.byte-index l.group))
