use Rattle.std.proofs.Common.{◌≡◌, map, take}
use Rattle.pgn_wordhub.proofs.serving.databases.Given as goal

abbrev pub invariant-loop-seat : goal.invariant-loop-seat
invariant-loop-seat l = l.dbs.items ≡ map (λ seat. seat.db) (take l.seat-index l.fn.seats)
