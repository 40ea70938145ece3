use Rattle.std.proofs.Common.{◌≡◌, drop}
use Rattle.std.specs.List.{list_all}
use Rattle.pgn_language.specs.Lines.{is_label_byte}
use Rattle.pgn_scenario.proofs.labels.are_label_bytes.Given as goal

abbrev pub invariant-loop-byte : goal.invariant-loop-byte
invariant-loop-byte l = list_all is_label_byte l.part ≡ list_all is_label_byte (drop l.byte-index l.part)
