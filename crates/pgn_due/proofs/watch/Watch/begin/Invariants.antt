use Rattle.std.proofs.Common.{take}
use Rattle.pgn_due.proofs.WatchLaws.{HasBegun}
use Rattle.pgn_due.proofs.watch.Watch.begin.Given as goal

abbrev pub invariant-loop-name : goal.invariant-loop-name
invariant-loop-name l = HasBegun l.from l.fn.self (take l.name-index l.name-items) l.self
