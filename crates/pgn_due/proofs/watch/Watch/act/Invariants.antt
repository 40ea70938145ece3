use Rattle.std.proofs.Common.{take}
use Rattle.pgn_due.proofs.WatchLaws.{HasActed}
use Rattle.pgn_due.proofs.watch.Watch.act.Given as goal

abbrev pub invariant-loop-action : goal.invariant-loop-action
invariant-loop-action l = HasActed l.from l.fn.self (take l.action-index l.actions) l.self
