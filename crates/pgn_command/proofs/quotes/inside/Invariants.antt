use Rattle.std.proofs.Common.{◌-◌, ◌≤◌, length}
use Rattle.pgn_command.proofs.QuoteLaws.{Written}
use Rattle.pgn_command.proofs.quotes.inside.Given as goal

abbrev pub invariant-loop-at : goal.invariant-loop-at
invariant-loop-at l = record { written : Written l.quote l.bytes l.end l.doubled; within : l.end ≤ length l.bytes }

abbrev pub decreases-loop-at : goal.decreases-loop-at
decreases-loop-at l = length l.bytes - l.end
