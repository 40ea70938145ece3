use Rattle.std.proofs.Common.{◌≡◌, take}
use Rattle.pgn_scenario.proofs.flags.Flags.names.Given as goal

abbrev pub invariant-loop-name : goal.invariant-loop-name
invariant-loop-name l = l.names ≡ take l.name-index l.self.names
