use Rattle.std.proofs.Common.{◌≡◌, map, take}
use Rattle.pgn_threads.specs.Opened.{seat_for}
use Rattle.pgn_threads.proofs.opening.seats_for.Given as goal

abbrev pub invariant-loop-section : goal.invariant-loop-section
invariant-loop-section l = l.seats.items ≡ map seat_for (take l.section-index l.fn.sections)
