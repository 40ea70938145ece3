use Rattle.std.proofs.Common.{◌≡◌, ◌≤◌, length, take}
use Rattle.pgn_messages.specs.Server.{without_zeros}
use Rattle.pgn_messages.proofs.digits.without_zeros.Given as goal

-- the digits that are left give what all give
abbrev pub invariant-loop-end : goal.invariant-loop-end
invariant-loop-end l = record {
  within : l.end ≤ length l.digits;
  value : without_zeros (take l.end l.digits) ≡ without_zeros l.digits;
}

abbrev pub decreases-loop-end : goal.decreases-loop-end
decreases-loop-end l = l.end
