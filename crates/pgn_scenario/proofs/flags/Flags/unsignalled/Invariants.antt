use Rattle.std.proofs.Common.{◌≡◌}
use Rattle.pgn_scenario.specs.Flags.{first_unsignalled}
use Rattle.pgn_scenario.proofs.flags.Flags.unsignalled.Given as goal

abbrev pub invariant-loop-flag : goal.invariant-loop-flag
invariant-loop-flag l =
    (goal.iterator-loop-flag).can_next l.flag-iterator ×
    (goal.iterator-loop-flag).is_finite l.flag-iterator ×
    (first_unsignalled l.self.signalled l.self.awaited ≡ first_unsignalled l.self.signalled l.flag-iterator)
