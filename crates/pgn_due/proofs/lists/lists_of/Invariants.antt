use Rattle.std.proofs.Common.{take}
use Rattle.pgn_due.specs.Sent.{sent_in}
use Rattle.pgn_due.specs.Lists.{AreLists}
use Rattle.pgn_due.proofs.lists.lists_of.Given as goal

abbrev pub invariant-loop-at : goal.invariant-loop-at
invariant-loop-at l = AreLists (take l.at (sent_in l.sends.journal.now)) l.lists.entries
