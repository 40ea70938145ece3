use Rattle.pgn_service.proofs.SeatingLaws.{HaveSeated}
use Rattle.pgn_service.proofs.seating.seat_each.Given as goal

abbrev pub invariant-loop-place : goal.invariant-loop-place
invariant-loop-place g l = HaveSeated g.P.PassView.known l.fn.seats l.place l.fn.passes.rest.items l.passes.rest.items l.seating.inboxes.items l.seating.desks.items l.seating.callers.items
