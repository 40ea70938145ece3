use Rattle.pgn_service.proofs.SeatingLaws.{next-known, one-seated}
use Rattle.pgn_service.proofs.seating.seat_each.Goals as goal

pub loop-place-preserved : goal.loop-place-preserved
loop-place-preserved g c =
    one-seated g.P.PassView.known c.args.seats c.loop-place.place c.args.passes.now.rest.items c.loop-place.passes.rest.items c.loop-place.seating.inboxes.items c.sit.new.seating.inboxes.items c.loop-place.seating.desks.items
    c.sit.new.seating.desks.items c.loop-place.seating.callers.items c.sit.new.seating.callers.items c.in-Some.pass c.next.new.self.rest.items c.in_ok-session.session c.loop-place-test.true c.in-Some.ensures.items c.loop-place.invariant
    c.in_ok-session.ensures c.in_ok-sit.ensures

pub session_for-requires-clause-opened : goal.session_for-requires-clause-opened
session_for-requires-clause-opened g c =
    next-known g.P.PassView.known c.args.seats c.loop-place.place c.loop-place.passes.rest.items c.in-Some.pass c.next.new.self.rest.items c.loop-place-test.true c.in-Some.ensures.items c.loop-place.invariant.rest
