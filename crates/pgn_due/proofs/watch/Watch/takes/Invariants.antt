use Rattle.std.proofs.Common.{take}
use Rattle.pgn_due.proofs.WatchLaws.{HasTaken}
use Rattle.pgn_due.proofs.watch.Watch.takes.Given as goal

abbrev pub invariant-loop-delivery : goal.invariant-loop-delivery
invariant-loop-delivery l = HasTaken l.end l.fn.self (take l.delivery-index l.got) l.self
