use Rattle.std.proofs.Common.{◌≡◌, ◌+◌, drop}
use Rattle.pgn_hub.specs.Shape.{notes_of_seats}
use Rattle.pgn_words.proofs.opening.notes_of_all.Given as goal

abbrev pub invariant-loop-seat : goal.invariant-loop-seat
invariant-loop-seat l = l.all + notes_of_seats (drop l.seat-index l.seats) ≡ notes_of_seats l.seats
